use Rattle.std.proofs.Common.{List, [], length, refl, sym, subst}
use Rattle.spec_text.specs.Edits.{line_ids}
use Rattle.sp_text.specs.declared.index.Side.TheVariants.{Front}
use Rattle.sp_text.specs.declared.index.Kind.TheVariants.{Free}
use Rattle.sp_text.specs.declared.index.Entry.{Entry}
use Rattle.sp_text.specs.Index.{Indexes}
use Rattle.sp_text.proofs.Learned.{Indexes-free, differ-front, differ-turned}
use Rattle.sp_text.proofs.index.Index.fill.Goals as goal

pub learn-requires-clause-indexes : goal.learn-requires-clause-indexes
learn-requires-clause-indexes c =
    let P : List Entry → Type 0 = λ index. Indexes Front [] [] index in
    subst P (sym c.requires.empty) (Indexes-free (length c.args.self.now) (record { id = 0; at = 0; side = Front; kind = Free }) refl c.requires.few)

pub learn-requires-clause-distinct : goal.learn-requires-clause-distinct
learn-requires-clause-distinct c = differ-front (line_ids c.args.front.now) (line_ids c.args.back.now) c.requires.distinct

pub learn-requires-2-clause-distinct : goal.learn-requires-2-clause-distinct
learn-requires-2-clause-distinct c = differ-turned (line_ids c.args.front.now) (line_ids c.args.back.now) c.requires.distinct
