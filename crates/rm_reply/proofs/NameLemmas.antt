-- The names of the bindings from one place to before another.
use Rattle.std.proofs.Common.{All, subst, ◌≡◌, ◌+◌, ◌-◌, ◌≤◌, ◌<◌, ℕ, zero, suc, List, [], ◌∷◌, ◌++◌, length, take, drop, Some, refl, sym, ap, ◌∙◌, arith}
use Rattle.std.specs.Prelude.{slice_get, slice_range, IfSome}
use Rattle.std.specs.Option.{option_map}
use Rattle.std.proofs.lemmas.Option.{slice_get-map}
use Rattle.std.proofs.lemmas.List.{append-nil, drop_all, take_all, length-drop, length-map, length-take-le}
use Rattle.std.proofs.lemmas.List.Elements.{All-head, All-tail}
use Rattle.std.specs.List.{refill}
use Rattle.rm_pdu.specs.Message.{Binding}
use Rattle.rm_reply.specs.Replies.{names_of}

pub there : {X : Type 0} (l : List X) (place : ℕ) → place < length l → (x : X) × (slice_get l place ≡ Some x)
there [] place less = absurd (omega (arith, less))
there (x ∷ more) zero less = (x, refl)
there (x ∷ more) (suc place) less = there more place (omega (arith, less))

pub slice_get-drop : {X : Type 0} (l : List X) (from k : ℕ) → slice_get (drop from l) k ≡ slice_get l (from + k)
slice_get-drop l zero k = let e : 0 + k ≡ k = omega arith in sym (ap (slice_get l) e)
slice_get-drop [] (suc from) k = refl
slice_get-drop (x ∷ l) (suc from) k =
    let e : suc from + k ≡ suc (from + k) = omega arith in
    slice_get-drop l from k ∙ sym (ap (slice_get (x ∷ l)) e)

pub take_more : {X : Type 0} (l : List X) (place : ℕ) (x : X) → slice_get l place ≡ Some x → take (suc place) l ≡ take place l ++ x ∷ []
take_more [] place x at = absurd cc
take_more (y ∷ l) zero x at = let e : y ≡ x = cc in ap (λ z. z ∷ []) e
take_more (y ∷ l) (suc place) x at = ap (λ zs. y ∷ zs) (take_more l place x at)

slice_range-more : {X : Type 0} (l : List X) (from place : ℕ) (x : X) → from ≤ place → slice_get l place ≡ Some x → slice_range l from (place + 1) ≡ slice_range l from place ++ x ∷ []
slice_range-more l from place x order at =
    let e : place + 1 - from ≡ suc (place - from) = omega arith in
    let back : from + (place - from) ≡ place = omega arith in
    ap (λ n. take n (drop from l)) e ∙ take_more (drop from l) (place - from) x (slice_get-drop l from (place - from) ∙ ap (slice_get l) back ∙ at)

-- as many items as there were
pub refill_same : {X : Type 0} (xs ws : List X) → length ws ≡ length xs → refill (length xs) xs ws ≡ ws
refill_same xs ws same =
    ap (λ l. take (length xs) (ws ++ l)) (drop_all (length ws) xs (omega (arith, same))) ∙ ap (take (length xs)) (append-nil ws) ∙ take_all (length xs) ws (omega (arith, same))

-- what holds of all names holds of each
pub at_all : {X : Type 0} (P : X → Type 0) (l : List X) (place : ℕ) (x : X) → All P l → slice_get l place ≡ Some x → P x
at_all P [] place x h at = absurd cc
at_all P (y ∷ l) zero x h at = let e : y ≡ x = cc in subst P e (All-head P y l h)
at_all P (y ∷ l) (suc place) x h at = at_all P l place x (All-tail P y l h) at

-- one name more
pub names_more : (bindings : List Binding) (names : List (List ℕ)) (from place : ℕ) (name : List ℕ) → from ≤ place → place < length bindings
    → IfSome (slice_get bindings place) (λ (b : Binding). name ≡ b.name) → names ≡ slice_range (names_of bindings) from place
    → names ++ name ∷ [] ≡ slice_range (names_of bindings) from (place + 1)
names_more bindings names from place name order less named so_far =
    let (b, at) = there bindings place less in
    let is : name ≡ b.name = rw at at named in
    let placed : slice_get (names_of bindings) place ≡ Some b.name = slice_get-map (λ (x : Binding). x.name) bindings place ∙ ap (option_map (λ (x : Binding). x.name)) at in
    ap (λ (ns : List (List ℕ)). ns ++ name ∷ []) so_far ∙ ap (λ (n : List ℕ). slice_range (names_of bindings) from place ++ n ∷ []) is
    ∙ sym (slice_range-more (names_of bindings) from place b.name order placed)

-- the name at a place among the first ones
pub name_among : (bindings : List Binding) (to place : ℕ) (name : List ℕ) → place < to → place < length bindings → IfSome (slice_get bindings place) (λ (b : Binding). name ≡ b.name)
    → slice_get (take to (names_of bindings)) place ≡ Some name
name_among bindings to place name among less named =
    let (b, at) = there bindings place less in
    let is : name ≡ b.name = rw at at named in
    let placed : slice_get (names_of bindings) place ≡ Some b.name = slice_get-map (λ (x : Binding). x.name) bindings place ∙ ap (option_map (λ (x : Binding). x.name)) at in
    get_take (names_of bindings) to place among ∙ placed ∙ ap Some (sym is)
  where
    get_take : {X : Type 0} (l : List X) (to place : ℕ) → place < to → slice_get (take to l) place ≡ slice_get l place
    get_take l zero place among = absurd (omega (arith, among))
    get_take [] (suc to) place among = refl
    get_take (x ∷ l) (suc to) zero among = refl
    get_take (x ∷ l) (suc to) (suc place) among = get_take l to place (omega (arith, among))

-- how many the first names are
pub length_among : (bindings : List Binding) (to : ℕ) → to ≤ length bindings → length (take to (names_of bindings)) ≡ to
length_among bindings to fits = length-take-le to (names_of bindings) (omega (arith, fits, length-map bindings (λ (x : Binding). x.name)))

-- all names
pub all_names : (bindings : List Binding) (count : ℕ) → count ≡ length bindings → take count (names_of bindings) ≡ names_of bindings
all_names bindings count all = take_all count (names_of bindings) (omega (arith, all, length-map bindings (λ (x : Binding). x.name)))

-- the names from a place on
pub last_names : (bindings : List Binding) (names : List (List ℕ)) (from to fixed : ℕ) → names ≡ slice_range (names_of bindings) from to → from ≡ fixed → to ≡ length bindings
    → names ≡ drop fixed (names_of bindings)
last_names bindings names from to fixed is same all =
    is ∙ take_all (to - from) (drop from (names_of bindings)) (omega (arith, all, length-drop from (names_of bindings), length-map bindings (λ (x : Binding). x.name))) ∙ ap (λ n. drop n (names_of bindings)) same
