-- The index of lines on two sides.
use Rattle.std.proofs.Common.{◌≡◌, List, sym, subst}
use Rattle.spec_text.specs.Lines.{LineState}
use Rattle.spec_text.specs.Edits.{line_ids}
use Rattle.sp_text.specs.declared.index.Side.TheVariants.{Front}
use Rattle.sp_text.specs.declared.index.Entry.{Entry}
use Rattle.sp_text.specs.Index.{Indexes}

pub Indexes-same : (front back front_now back_now : List LineState) (index : List Entry) → line_ids front_now ≡ line_ids front → line_ids back_now ≡ line_ids back → Indexes Front (line_ids front) (line_ids back) index → Indexes Front (line_ids front_now) (line_ids back_now) index
Indexes-same front back front_now back_now index front_is back_is indexes =
    subst (λ ids. Indexes Front ids (line_ids back_now) index) (sym front_is) (subst (λ ids. Indexes Front (line_ids front) ids index) (sym back_is) indexes)
