-- Answers with something, and answers that decide.
use Rattle.std.proofs.Common.{◌≡◌, Bool, ap, subst, sym, ◌∙◌}
use Rattle.std.specs.Prelude.{Option, Some, None, Result, Ok, Err, IfOk, IfSome, Decides, option_map}

pub some-more : {X F : Type 0} (r : Result (Option X) F) (P Q : X → Type 0) → IfOk r (λ o. IfSome o P) → ((x : X) → P x → Q x) → IfOk r (λ o. IfSome o Q)
some-more (Ok (Some x)) P Q h f = f x h
some-more (Ok None) P Q h f = tt
some-more (Err e) P Q h f = tt

pub decided-more : {F : Type 0} (r : Result Bool F) (P Q : Type 0) → IfOk r (λ b. Decides b P) → (P → Q) → (Q → P) → IfOk r (λ b. Decides b Q)
decided-more (Ok b) P Q h to from = (λ is. to (h.0 is), λ q. h.1 (from q))
decided-more (Err e) P Q h to from = tt

pub told-some : {X : Type 0} (o : Option X) (x : X) (P : X → Type 0) → IfSome o P → o ≡ Some x → P x
told-some o x P h is = subst (λ p. IfSome p P) is h

pub optional-items : {V X : Type 0} (f : V → X) (o : Option V) (v : V) (x : X) → o ≡ Some v → x ≡ f v → option_map f o ≡ Some x
optional-items f o v x is same = ap (option_map f) is ∙ ap Some (sym same)
