-- One more object, field or register in a plan.
use Rattle.std.proofs.Common.{◌≡◌, ℕ, zero, suc, ◌+◌, ◌<◌, ◌≤◌, leb, true, List, [], ◌∷◌, ◌++◌, length, map, take, get_or, refl, sym, ap, ◌∙◌, append_assoc, arith}
use Rattle.std.proofs.Math.Seq.{take-suc}
use Rattle.std.proofs.lemmas.List.{append-nil, length-take}
use Rattle.block_store.specs.declared.Value.{Value}
use Rattle.never_heap.specs.declared.Command.{Command}
use Rattle.never_heap.specs.Graphs.{Object}
use Rattle.saved_heap.specs.declared.heap_pictures.picture.Item.{Item}
use Rattle.std.specs.List.{list_all}
use Rattle.std.proofs.lemmas.Bool.{and_parts, leb-true}
use Rattle.saved_heap.specs.heap_pictures.Pictures.{are_within, is_item, view}
use Rattle.saved_heap.specs.heap_pictures.Plans.{filled, fills, load, loads, made, makes, store, stores}
use Rattle.saved_heap.proofs.heap_pictures.Lists.{length_map}

-- a list whose elements each give commands, by their numbers
abbrev Numbers : {A : Type 0} → (ℕ → List A → List Command) → (ℕ → A → List Command) → Type 0
Numbers {A} all one =
    ((k : ℕ) → all k [] ≡ []) × ((k : ℕ) (x : A) (xs : List A) → all k (x ∷ xs) ≡ one k x ++ all (suc k) xs)

push_all : {A : Type 0} (all : ℕ → List A → List Command) (one : ℕ → A → List Command) → Numbers all one
    → (k : ℕ) (xs : List A) (x : A) → all k (xs ++ x ∷ []) ≡ all k xs ++ one (k + length xs) x
push_all all one is k [] x =
    is.1 k x [] ∙ ap (λ l. one k x ++ l) (is.0 (suc k)) ∙ append-nil (one k x)
    ∙ ap (λ j. one j x) (let e : k ≡ k + 0 = omega arith in e) ∙ ap (λ l. l ++ one (k + 0) x) (sym (is.0 k))
push_all all one is k (y ∷ xs) x =
    is.1 k y (xs ++ x ∷ []) ∙ ap (λ l. one k y ++ l) (push_all all one is (suc k) xs x)
    ∙ sym (append_assoc (one k y) (all (suc k) xs) (one (suc k + length xs) x))
    ∙ (λ i. sym (is.1 k y xs) i ++ one ((let e : suc k + length xs ≡ k + suc (length xs) = omega arith in e) i) x)

take_long : {A : Type 0} (xs : List A) (i : ℕ) → i < length xs → length (take i xs) ≡ i
take_long xs i low = let l = length-take i xs in omega (arith, l, low)

-- one more of a list that is gone through
more_of : {A B : Type 0} (f : A → B) (all : ℕ → List B → List Command) (one : ℕ → B → List Command) → Numbers all one
    → (front plan : List Command) (k i : ℕ) (xs : List A) (d : A) → i < length xs
    → plan ≡ front ++ all k (map f (take i xs)) → plan ++ one (k + i) (f (get_or xs i d)) ≡ front ++ all k (map f (take (i + 1) xs))
more_of f all one is front plan k i xs d low before =
    let next : take (i + 1) xs ≡ take i xs ++ get_or xs i d ∷ [] = ap (λ j. take j xs) (let e : i + 1 ≡ suc i = omega arith in e) ∙ take-suc xs i d low in
    let long : length (map f (take i xs)) ≡ i = length_map f (take i xs) ∙ take_long xs i low in
    ap (λ l. l ++ one (k + i) (f (get_or xs i d))) before
    ∙ append_assoc front (all k (map f (take i xs))) (one (k + i) (f (get_or xs i d)))
    ∙ ap (λ l. front ++ l) (ap (λ j. all k (map f (take i xs)) ++ one (k + j) (f (get_or xs i d))) (sym long)
    ∙ sym (push_all all one is k (map f (take i xs)) (f (get_or xs i d)))
    ∙ ap (all k) (sym (map_front f (take i xs) (get_or xs i d)) ∙ ap (map f) (sym next)))
  where
    map_front : {A B : Type 0} (f : A → B) (xs : List A) (x : A) → map f (xs ++ x ∷ []) ≡ map f xs ++ f x ∷ []
    map_front f [] x = refl
    map_front f (y ∷ xs) x = ap (λ l. f y ∷ l) (map_front f xs x)

abbrev one_load : ℕ → Value → List Command
one_load d v = load d v ∷ []

abbrev itself : Object → Object
itself o = o

map_itself : (xs : List Object) → map itself xs ≡ xs
map_itself [] = refl
map_itself (x ∷ xs) = ap (λ l. x ∷ l) (map_itself xs)

-- one object more
more_objects : (all : ℕ → List Object → List Command) (one : ℕ → Object → List Command) → Numbers all one
    → (front plan : List Command) (i : ℕ) (os : List Object) (d : Object) → i < length os
    → plan ≡ front ++ all 1 (take i os) → plan ++ one (suc i) (get_or os i d) ≡ front ++ all 1 (take (suc i) os)
more_objects all one is front plan i os d low before =
    ap (λ j. plan ++ one j (get_or os i d)) (let e : suc i ≡ 1 + i = omega arith in e)
    ∙ more_of itself all one is front plan 1 i os d low (before ∙ ap (λ l. front ++ all 1 l) (sym (map_itself (take i os))))
    ∙ ap (λ l. front ++ all 1 l) (map_itself (take (i + 1) os))
    ∙ ap (λ j. front ++ all 1 (take j os)) (let e : i + 1 ≡ suc i = omega arith in e)

pub more_makes : (front plan : List Command) (i : ℕ) (os : List Object) (d : Object) → i < length os
    → plan ≡ front ++ makes 1 (take i os) → plan ++ made (suc i) (get_or os i d) ≡ front ++ makes 1 (take (suc i) os)
more_makes = more_objects makes made (λ k. refl, λ k x ys. refl)

pub more_fills : (front plan : List Command) (i : ℕ) (os : List Object) (d : Object) → i < length os
    → plan ≡ front ++ fills 1 (take i os) → plan ++ filled (suc i) (get_or os i d) ≡ front ++ fills 1 (take (suc i) os)
more_fills = more_objects fills filled (λ k. refl, λ k x ys. refl)

abbrev same : Value → Value
same v = v

map_same : (xs : List Value) → map same xs ≡ xs
map_same [] = refl
map_same (x ∷ xs) = ap (λ l. x ∷ l) (map_same xs)

pub more_stores : (front plan : List Command) (i : ℕ) (xs : List Value) (d : Value) → i < length xs → plan ≡ front ++ stores 0 (take i xs)
    → plan ++ store i (get_or xs i d) ≡ front ++ stores 0 (take (i + 1) xs)
more_stores front plan i xs d low before =
    ap (λ j. plan ++ store j (get_or xs i d)) (let e : i ≡ 0 + i = omega arith in e)
    ∙ more_of same stores store (λ k. refl, λ k x ys. refl) front plan 0 i xs d low (before ∙ ap (λ l. front ++ stores 0 l) (sym (map_same (take i xs))))
    ∙ ap (λ l. front ++ stores 0 l) (map_same (take (i + 1) xs))

pub more_loads : (front plan : List Command) (r i : ℕ) (xs : List Value) (d : Value) → i < length xs → plan ≡ front ++ loads r (take i xs)
    → plan ++ load (r + i) (get_or xs i d) ∷ [] ≡ front ++ loads r (take (i + 1) xs)
more_loads front plan r i xs d low before =
    more_of same loads one_load (λ k. refl, λ k x ys. refl) front plan r i xs d low (before ∙ ap (λ l. front ++ loads r l) (sym (map_same (take i xs))))
    ∙ ap (λ l. front ++ loads r l) (map_same (take (i + 1) xs))

-- the objects of a sound picture are short
pub each_short : (n : ℕ) (xs : List Item) (o : Item) (i : ℕ) → list_all (is_item n) (map view xs) ≡ true → i < length xs → length (get_or xs i o).fields.items ≤ 65535
each_short n [] o i all low = absurd (omega (arith, low))
each_short n (x ∷ xs) o zero all low =
    let parts = and_parts (is_item n (view x)) (list_all (is_item n) (map view xs)) all in
    leb-true (length x.fields.items) 65535 (and_parts (leb (length x.fields.items) 65535) (are_within n x.fields.items) parts.0).0
each_short n (x ∷ xs) o (suc i) all low =
    let parts = and_parts (is_item n (view x)) (list_all (is_item n) (map view xs)) all in
    each_short n xs o i parts.1 (omega (arith, low))
