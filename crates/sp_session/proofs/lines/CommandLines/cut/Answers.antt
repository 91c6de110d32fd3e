use Rattle.std.proofs.Common.{◌+◌, subst, Some, None}
use Rattle.sp_session.specs.CutState.{HandsOut, HasNoLine}
use Rattle.sp_session.proofs.BufferLaws.{position-in, cut-buffered, cut-hands, buffer-budget, uncut-buffered, uncut-plain, state_of}
use Rattle.sp_session.proofs.lines.CommandLines.cut.Goals as goal

pub invariant_of-self : goal.invariant_of-self
invariant_of-self c =
    let it = c.self.inside in
    let is = position-in it.bytes c.deref.result.now it.scanned (Some c.in-Some.place) c.deref.ensures.value c.in-Some.ensures in
    cut-buffered it.bytes it.piece it.line_from it.line_to it.from it.scanned it.count c.in-Some.place c.self.invariant (rw (← c.self.view_is) at c.requires) is

pub invariant_of-self-in-None : goal.invariant_of-self-in-None
invariant_of-self-in-None c =
    let it = c.self.inside in
    let is = position-in it.bytes c.deref.result.now it.scanned None c.deref.ensures.value c.in-None.ensures in
    rw c.len-self-inside.ensures (uncut-buffered it.bytes it.piece it.line_from it.line_to it.from it.scanned it.count c.self.invariant is)

pub returns-in-Some-clause-cut : goal.returns-in-Some-clause-cut
returns-in-Some-clause-cut c =
    let it = c.self.inside in
    let is = position-in it.bytes c.deref.result.now it.scanned (Some c.in-Some.place) c.deref.ensures.value c.in-Some.ensures in
    subst (λ old. HandsOut old (state_of it.bytes it.from (it.scanned + c.in-Some.place) (it.scanned + c.in-Some.place + 1) (it.count + 1))) c.self.view_is
    (cut-hands it.bytes it.piece it.line_from it.line_to it.from it.scanned it.count c.in-Some.place c.self.invariant is)

pub returns-in-Some-clause-budget : goal.returns-in-Some-clause-budget
returns-in-Some-clause-budget c =
    let it = c.self.inside in
    let is = position-in it.bytes c.deref.result.now it.scanned (Some c.in-Some.place) c.deref.ensures.value c.in-Some.ensures in
    buffer-budget it.bytes it.piece it.from (it.scanned + c.in-Some.place) (it.scanned + c.in-Some.place + 1) (it.scanned + c.in-Some.place + 1) (it.count + 1)
    (cut-buffered it.bytes it.piece it.line_from it.line_to it.from it.scanned it.count c.in-Some.place c.self.invariant (rw (← c.self.view_is) at c.requires) is)

pub returns-in-None-clause-none : goal.returns-in-None-clause-none
returns-in-None-clause-none c =
    let it = c.self.inside in
    let is = position-in it.bytes c.deref.result.now it.scanned None c.deref.ensures.value c.in-None.ensures in
    subst (λ old. HasNoLine old (state_of it.bytes it.line_from it.line_to it.from it.count)) c.self.view_is
    (uncut-plain it.bytes it.piece it.line_from it.line_to it.from it.scanned it.count c.self.invariant is)

pub returns-in-None-clause-budget : goal.returns-in-None-clause-budget
returns-in-None-clause-budget c =
    let it = c.self.inside in
    buffer-budget it.bytes it.piece it.line_from it.line_to it.from it.scanned it.count c.self.invariant
