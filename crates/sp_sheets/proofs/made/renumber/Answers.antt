use Rattle.std.proofs.Common.{◌≡◌, ℕ, false, ap, ap₂, sym, ◌∙◌, subst}
use Rattle.std.specs.Prelude.{All, option_map}
use Rattle.spec_state.specs.State.{State, text_of as state_text}
use Rattle.spec_state.specs.Keeping.{IsWhole, records_of, state_of}
use Rattle.spec_state.specs.Headings.{heading_labels}
use Rattle.spec_state.specs.StateSheets.{body_sheets}
use Rattle.spec_records.specs.Kept.{RecordsOf}
use Rattle.spec_text.specs.Lines.{TextState}
use Rattle.sp_layout.specs.Bodies.{marks_in}
use Rattle.sp_layout.specs.LaidOut.{LayoutOf}
use Rattle.sp_layout.specs.Kept.{laid_of}
use Rattle.sp_sheets.specs.Firsts.{laid_in}
use Rattle.sp_sheets.specs.declared.parts.Numbered.TheInside.{Inside}
use Rattle.sp_sheets.specs.Made.{NumberedOf}
use Rattle.sp_sheets.specs.Numbered.{marked_sheets, AreMovedOutside}
use Rattle.sp_sheets.proofs.MarkedLaws.{rows-unmarked}
use Rattle.sp_sheets.proofs.StaleSheets.{stale-same}
use Rattle.sp_sheets.proofs.made.renumber.Goals as goal
use Rattle.sp_sheets.proofs.made.renumber.Goals.{After-stale_places-stale, Joined-labels-3, in_default, in-Some+in-Some-1, in-Some+in-None-2}

pub stale_places-stale-requires : goal.stale_places-stale-requires
stale_places-stale-requires c = record {
  unmarked = λ none. (
      let state : State = c.args.laid.now in
      let laid = ap laid_of c.layout.view_is ∙ c.layout-layout.ensures in
      let body = c.layout.inside.body.elements in
      let round : state.round ≡ 0 = ap (λ (r : RecordsOf). r.round) (sym c.records-records.ensures.records) ∙ rw none at c.renews_all.ensures.round in
      subst (All (λ (mark : ℕ). mark ≡ 0)) (sym c.marks-marks.ensures) (rows-unmarked state body c.records-records.ensures.whole (ap (λ (l : LayoutOf). l.body.elements) laid) round));
}

outside : (c : After-stale_places-stale)
    → AreMovedOutside c.numbered.inside.sheets.items (marked_sheets (marks_in (laid_in c.args.laid.now).body.elements) 1 c.starts-starts.result.now) c.stale_places-stale.result
outside c =
    let laid = ap laid_of c.layout.view_is ∙ c.layout-layout.ensures in
    let locked = sym c.records-records.ensures.records in
    stale-same c.deref.result.now c.numbered.inside.sheets.items (c.args.numbered.now).sheets c.marks-marks.result.now.items (marks_in (laid_in c.args.laid.now).body.elements) c.starts-starts.result.now (c.args.pages.now).starts
    c.args.swapped.now (c.renews_all.result ≡ false) c.stale_places-stale.result
    c.deref.ensures.value (ap (λ (n : NumberedOf). n.sheets) c.numbered.view_is) (c.marks-marks.ensures ∙ ap (λ (l : LayoutOf). marks_in l.body.elements) laid) c.starts-starts.ensures
    c.requires.can (λ none. c.requires.sheets (ap (λ (r : RecordsOf). r.pages) locked ∙ rw none at c.renews_all.ensures.locked) (ap (λ (r : RecordsOf). r.round) locked ∙ rw none at c.renews_all.ensures.round)) c.stale_places-stale.ensures

pub renew_body_sheets-requires-clause-stale : goal.renew_body_sheets-requires-clause-stale
renew_body_sheets-requires-clause-stale c = outside (goal.at.renew_body_sheets-requires-clause-stale c).After-stale_places-stale

pub changed_labels-requires : goal.changed_labels-requires
changed_labels-requires c =
    let whole : IsWhole (state_of (state_text c.args.laid.now) (records_of c.args.laid.now)) = record { text = c.records-records.ensures.whole.text; rules = c.records-records.ensures.whole.rules } in
    subst IsWhole (sym (ap₂ state_of c.text.ensures c.records-records.ensures.records)) whole

-- The labels that were made are those of the state.
made-labels : (c : Joined-labels-3) → heading_labels c.text.result.now.lines.lines c.records-records.result.now.scenes ≡ heading_labels c.args.laid.now.lines c.args.laid.now.scenes
made-labels c = ap₂ (λ (text : TextState) (records : RecordsOf). heading_labels text.lines records.scenes) c.text.ensures c.records-records.ensures.records

-- Labels and sheets are those of the state.
labelled : (c : Joined-labels-3) → option_map (λ those. those.items) c.match-labels-3.numbered-inside.labels ≡ heading_labels c.args.laid.now.lines c.args.laid.now.scenes
labelled c = elim c.match-labels-3.branch [
  | in-Some+in-Some-1 w ↦ ap (λ (n : Inside). option_map (λ those. those.items) n.labels) w.numbered-inside-is ∙ (rw w.in-Some.is at c.in_ok-labels.ensures.made) ∙ made-labels c
  | in-Some+in-None-2 w ↦ ap (λ (n : Inside). option_map (λ those. those.items) n.labels) w.numbered-inside-is ∙ (rw w.in-Some.is at c.in_ok-labels.ensures.made) ∙ made-labels c
  | in_default w ↦ ap (λ (n : Inside). option_map (λ those. those.items) n.labels) w.numbered-inside-is ∙ ap (λ (n : NumberedOf). n.labels) c.numbered.view_is ∙ c.requires.labels (rw w.in_default.is at c.in_ok-labels.ensures.kept)
]

with_sheets : (c : Joined-labels-3) → c.match-labels-3.numbered-inside.sheets.items ≡ body_sheets c.args.laid.now
with_sheets c = elim c.match-labels-3.branch [
  | in-Some+in-Some-1 w ↦ ap (λ (n : Inside). n.sheets.items) w.numbered-inside-is ∙ c.in_ok-renew_body_sheets.ensures.made
  | in-Some+in-None-2 w ↦ ap (λ (n : Inside). n.sheets.items) w.numbered-inside-is ∙ c.in_ok-renew_body_sheets.ensures.made
  | in_default w ↦ ap (λ (n : Inside). n.sheets.items) w.numbered-inside-is ∙ c.in_ok-renew_body_sheets.ensures.made
]

-- Title sheets are those that there were.
titled : (c : Joined-labels-3) → c.match-labels-3.numbered-inside.title_starts.items ≡ (c.args.numbered.now).title_starts
titled c = elim c.match-labels-3.branch [
  | in-Some+in-Some-1 w ↦ ap (λ (n : Inside). n.title_starts.items) w.numbered-inside-is ∙ ap (λ (n : NumberedOf). n.title_starts) c.numbered.view_is
  | in-Some+in-None-2 w ↦ ap (λ (n : Inside). n.title_starts.items) w.numbered-inside-is ∙ ap (λ (n : NumberedOf). n.title_starts) c.numbered.view_is
  | in_default w ↦ ap (λ (n : Inside). n.title_starts.items) w.numbered-inside-is ∙ ap (λ (n : NumberedOf). n.title_starts) c.numbered.view_is
]

pub returns-in-Some-titles : goal.returns-in-Some-titles
returns-in-Some-titles c =
    let joined = (goal.at.returns-in-Some-titles c).Joined-labels-3 in
    record {
      numbered = record { labels = labelled joined; title_starts = rw c.in-Some-titles.is at c.in_ok-titles.ensures.made; sheets = with_sheets joined };
      same = tt;
    }

pub returns-in_default-titles : goal.returns-in_default-titles
returns-in_default-titles c =
    let joined = (goal.at.returns-in_default-titles c).Joined-labels-3 in
    record {
      numbered = record { labels = labelled joined; title_starts = titled joined ∙ c.requires.titles (rw c.in_default-titles.is at c.in_ok-titles.ensures.kept); sheets = with_sheets joined };
      same = tt;
    }
