-- The members of a record file, put into an object (docs/RULES.md, "Record file").
use Rattle.std.specs.Prelude.{ℕ, List, map, codes}
use Rattle.serde_json.specs.Data.{string, Members, put}
use Rattle.spec_jsonback.specs.Lists.{number_data, list_data}
use Rattle.spec_text.specs.Lines.{LineState}
use Rattle.spec_records.specs.Kept.{RecordsOf}
use Rattle.spec_records.specs.RecordFile.{digest_of, optional_data, scene_data, page_data, settings_data}

-- With the digest, the format, the ids, the marks and the next id.
abbrev pub with_text : List LineState → ℕ → Members → Members
with_text lines next members =
    put (codes "next") (number_data next) (put (codes "marks") (list_data number_data (map (λ (line : LineState). line.mark) lines))
    (put (codes "ids") (list_data number_data (map (λ (line : LineState). line.id) lines)) (put (codes "format") (string (codes "fountain-desk"))
    (put (codes "digest") (string (digest_of lines)) members))))

-- With the round, the settings, the records and the version.
abbrev pub with_records : RecordsOf → Members → Members
with_records it members =
    put (codes "version") (number_data 2) (put (codes "settings") (settings_data it) (put (codes "scenes") (optional_data scene_data it.scenes)
    (put (codes "round") (number_data it.round) (put (codes "pages") (optional_data page_data it.pages) members))))
