-- A list of values that tell the items of another, with one item more.
use Rattle.std.proofs.Common.{◌≡◌, ℕ, ◌+◌, ◌<◌, List, [], ◌∷◌, ◌++◌, length, map, take, get_or, ap, ap₂, sym, ◌∙◌}
use Rattle.std.specs.Prelude.{String, string_bytes}
use Rattle.std.specs.declared.alloc.Global.{Global}
use Rattle.std.proofs.lemmas.List.{take_more, map-append}
use Rattle.serde_json.specs.Data.{Data, string}

map-more : {X Y : Type 0} (f : X → Y) (xs : List X) (i : ℕ) (d x : X) → i < length xs → x ≡ get_or xs i d → map f (take (i + 1) xs) ≡ map f (take i xs) ++ f x ∷ []
map-more f xs i d x inside here =
    ap (map f) (take_more xs i d inside ∙ ap (λ x. take i xs ++ x ∷ []) (sym here)) ∙ map-append f (take i xs) (x ∷ [])

told-more : {X Y : Type 0} (f : X → Y) (told : List Y) (before now : List X) (x : X) (y : Y) → now ≡ before ++ x ∷ [] → f x ≡ y → map f before ≡ told → map f now ≡ told ++ y ∷ []
told-more f told before now x y is same so_far = ap (map f) is ∙ map-append f before (x ∷ []) ∙ ap₂ (λ ys y. ys ++ y ∷ []) so_far same

pub items-more : {X V : Type 0} (f : V → Data) (g : X → Data) (before now : List V) (v : V) (xs : List X) (i : ℕ) (d x : X) → i < length xs → x ≡ get_or xs i d
    → now ≡ before ++ v ∷ [] → f v ≡ g x → map f before ≡ map g (take i xs) → map f now ≡ map g (take (i + 1) xs)
items-more f g before now v xs i d x inside here is same so_far =
    told-more f (map g (take i xs)) before now v (g x) is same so_far ∙ sym (map-more g xs i d x inside here)

pub texts-more : {V : Type 0} (f : V → Data) (before now : List V) (v : V) (texts : List (String Global)) (i : ℕ) (text : String Global) → i < length texts → text ≡ get_or texts i text
    → now ≡ before ++ v ∷ [] → f v ≡ string (string_bytes text) → map f before ≡ map string (map string_bytes (take i texts)) → map f now ≡ map string (map string_bytes (take (i + 1) texts))
texts-more f before now v texts i text inside here is same so_far =
    let told = map string_bytes (take i texts) in
    told-more f (map string told) before now v (string (string_bytes text)) is same so_far
    ∙ sym (ap (map string) (map-more string_bytes texts i text text inside here) ∙ map-append string told (string_bytes text ∷ []))
