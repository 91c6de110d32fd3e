-- A line that shows one run has the clusters of that, and those of printable text are those of its bytes.
use Rattle.std.proofs.Common.{◌-◌, true, drop, get_or, length, length-drop, length-take, ap, sym, ◌∙◌, arith}
use Rattle.spec_script.specs.declared.Run.{Run}
use Rattle.spec_pages.specs.Clusters.{byte_clusters, clusters_at}
use Rattle.spec_pages.proofs.PrintableLaws.{clusters_at-printable}
use Rattle.sp_measure.proofs.Bytes.{clusters_of-single, total_width-bytes}
use Rattle.unicode_segmentation.specs.Grapheme.{graphemes}
use Rattle.sp_measure.proofs.rows.printable_of.Goals as goal

abbrev none : Run
none = record { from = 0; to = 0; style = 0 }

pub returns : goal.returns
returns c =
    let text = c.args.text.now in
    let run = get_or c.args.runs.now 0 none in
    let part = c.range-part.result.now in
    let printable = sym c.is_printable.ensures ∙ c.if-not-is_printable.false in
    let is = c.range-part.ensures.value in
    let len = ap length c.as_bytes.ensures.value ∙ ap length is in
    record {
      value = ap (byte_clusters run.style run.from) c.as_bytes.ensures.value
          ∙ sym (clusters_at-printable run.style run.from part printable)
          ∙ ap (λ p. clusters_at run.style run.from (graphemes true p)) is
          ∙ sym (clusters_of-single text c.args.runs.now none c.in-len1.len_at_least c.in-len1.len_below);
      wide = omega (
        arith,
        total_width-bytes run.style run.from c.as_bytes.result.now,
        len,
        c.requires.small,
        length-take (run.to - run.from) (drop run.from text),
        length-drop run.from text,
      );
    }
