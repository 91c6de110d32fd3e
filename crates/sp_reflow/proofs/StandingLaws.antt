-- What putting page starts back leaves as it is.
use Rattle.std.proofs.Common.{◌≡◌, ℕ, ◌+◌, ◌^◌, ◌<◌, Option, Some, None, List, length, drop, sym, ap, ◌∙◌, subst, arith}
use Rattle.std.specs.Prelude.{IfSome, SomeIff}
use Rattle.sp_reflow.specs.Starts.{Taken}
use Rattle.sp_reflow.specs.Updates.{with_taken, CanPutBack, AreStandingBehind}
use Rattle.sp_reflow.proofs.Updates.{later-is, length-exchanged}

-- Those behind what stands there, where as many come as go.
pub standing-behind : (starts : List ℕ) (it : Taken) → CanPutBack starts it → it.stands ≡ length it.starts → AreStandingBehind starts (with_taken starts it) it.less it.more (it.place + it.stands)
standing-behind starts it can many =
    let inside = can.inside in
    let count = length-exchanged starts it.starts it.place it.stands it.less it.more inside in
    record {
      within = inside;
      count = omega (arith, inside, count, many);
      can = can.later;
      same = ap (λ n. drop (it.place + n) (with_taken starts it)) many ∙ later-is starts it.starts it.place it.stands it.less it.more (omega (arith, inside));
    }

-- The same of their place where it was found.
pub behind-found : (starts : List ℕ) (it : Taken) (place stands less more : ℕ) (found : Option ℕ) → CanPutBack starts it → place ≡ it.place → stands ≡ it.stands → less ≡ it.less → more ≡ it.more → it.stands ≡ length it.starts
    → SomeIff found (place + stands < 2 ^ 64) (place + stands) → IfSome found (AreStandingBehind starts (with_taken starts it) less more)
behind-found starts it place stands less more None can place_is stands_is less_is more_is many is = tt
behind-found starts it place stands less more (Some behind) can place_is stands_is less_is more_is many is =
    subst (λ l. AreStandingBehind starts (with_taken starts it) l more behind) (sym less_is)
    (subst (λ m. AreStandingBehind starts (with_taken starts it) it.less m behind) (sym more_is)
    (subst (AreStandingBehind starts (with_taken starts it) it.less it.more) (omega (arith, is.1, place_is, stands_is)) (standing-behind starts it can many)))
