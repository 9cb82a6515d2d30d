-- Steps of a walk.
use Rattle.std.proofs.Common.{◌≡◌, ℕ, zero, suc, ◌+◌, ◌<◌, ◌≤◌, max, List, [], ◌∷◌, ◌++◌, length, map, take, get_or, set, inl, inr, refl, sym, ap, ◌∙◌, subst, arith}
use Rattle.std.specs.List.{AllByRecursion}
use Rattle.std.proofs.Math.Seq.{take-suc}
use Rattle.std.proofs.lemmas.Bool.{cases_eq, cases_lt}
use Rattle.std.proofs.lemmas.List.{get_or-set_same, get_or-set_other, map_push}
use Rattle.block_store.specs.declared.Name.{Name}
use Rattle.block_store.specs.declared.Value.{Value}
use Rattle.block_store.specs.declared.Value.TheVariants.{Nil, Int, Ref}
use Rattle.heap_system.specs.Machines.{Run}
use Rattle.saved_heap.proofs.heap_pictures.Lists.{at_front, length_front}
use Rattle.control_heap.specs.Seen.{IsSeen, IsSeenAt}
use Rattle.control_heap.specs.declared.control.seen.Seen.{Seen}
use Rattle.saved_heap.specs.SearchOrder.{AreInTurn, named_after, serial_in}
use Rattle.saved_heap.specs.Walks.{AreLow, Grows, HasNamed, HasNoted, HasNumber, HasNumberAt, IsFound, IsWalk, Reads, ReadsOne, State, block_seen, number_at, numbered, numbered_at}

-- ---- lists

abbrev pub Each : {A : Type 0} → (A → Type 0) → List A → Type 0
Each P xs = AllByRecursion P xs

pub each_push : {A : Type 0} (P : A → Type 0) (xs : List A) (x : A) → Each P xs → P x → Each P (xs ++ x ∷ [])
each_push P [] x all one = (one, tt)
each_push P (y ∷ xs) x all one = (all.0, each_push P xs x all.1 one)

pub each_at : {A : Type 0} (P : A → Type 0) (xs : List A) (i : ℕ) (d : A) → i < length xs → Each P xs → P (get_or xs i d)
each_at P [] i d low all = absurd (omega (arith, low))
each_at P (x ∷ xs) zero d low all = all.0
each_at P (x ∷ xs) (suc i) d low all = each_at P xs i d (omega (arith, low)) all.1

pub each_map : {A : Type 0} (P Q : A → Type 0) → ((x : A) → P x → Q x) → (xs : List A) → Each P xs → Each Q xs
each_map P Q f [] all = tt
each_map P Q f (x ∷ xs) all = (f x all.0, each_map P Q f xs all.1)

pub maps_agree : {A B : Type 0} (P : A → Type 0) (f g : A → B) → ((x : A) → P x → f x ≡ g x) → (xs : List A) → Each P xs → map f xs ≡ map g xs
maps_agree P f g same [] all = refl
maps_agree P f g same (x ∷ xs) all = (λ i. same x all.0 i ∷ maps_agree P f g same xs all.1 i)

pub push_low : {A : Type 0} (xs : List A) (x d : A) (k : ℕ) → k < length xs → get_or (xs ++ x ∷ []) k d ≡ get_or xs k d
push_low [] x d k low = absurd (omega (arith, low))
push_low (y ∷ xs) x d zero low = refl
push_low (y ∷ xs) x d (suc k) low = push_low xs x d k (omega (arith, low))

pub push_zero : (xs : List ℕ) (x : ℕ) → get_or (xs ++ 0 ∷ []) x 0 ≡ get_or xs x 0
push_zero [] zero = refl
push_zero [] (suc x) = refl
push_zero (y ∷ xs) zero = refl
push_zero (y ∷ xs) (suc x) = push_zero xs x

-- ---- growth

pub grows_same : (w v : State) → v.found ≡ w.found → ((x : ℕ) → number_at v x ≡ number_at w x) → Grows w v
grows_same w v found numbers = record {
  longer = let e = ap length found in omega (arith, e);
  found = λ k d low. ap (λ l. get_or l k d) found;
  numbers = λ x some. numbers x;
}

pub grows_on : (w v u : State) → Grows w v → Grows v u → Grows w u
grows_on w v u one two = record {
  longer = omega (arith, one.longer, two.longer);
  found = λ k d low. two.found k d (let l = one.longer in omega (arith, low, l)) ∙ one.found k d low;
  numbers = λ x some. two.numbers x (subst (λ n. 0 < n) (sym (one.numbers x some)) some) ∙ one.numbers x some;
}

has_number_on : (w v : State) → Grows w v → (y : Value) (x : ℕ) → HasNumberAt w y x → HasNumberAt v y x
has_number_on w v g Nil x has = tt
has_number_on w v g (Int n) x has = tt
has_number_on w v g (Ref a) x has = subst (λ n. 0 < n) (sym (g.numbers x has)) has

numbered_on : (w v : State) → Grows w v → (y : Value) (x : ℕ) → HasNumberAt w y x → numbered_at w y x ≡ numbered_at v y x
numbered_on w v g Nil x has = refl
numbered_on w v g (Int n) x has = refl
numbered_on w v g (Ref a) x has = ap (λ s. Ref (record { thread = 0; serial = s })) (sym (g.numbers x has))

pub some_on : (w v : State) → Grows w v → (xs : List Seen) → Each (HasNumber w) xs → Each (HasNumber v) xs
some_on w v g xs all = each_map (HasNumber w) (HasNumber v) (λ s has. has_number_on w v g s.value s.block has) xs all

pub values_on : (w v : State) → Grows w v → (xs : List Seen) → Each (HasNumber w) xs → map (numbered w) xs ≡ map (numbered v) xs
values_on w v g xs all = maps_agree (HasNumber w) (numbered w) (numbered v) (λ s has. numbered_on w v g s.value s.block has) xs all

-- ---- a walk over the same numbers

pub walk_same : (r : Run) (w v : State) → v.found ≡ w.found → ((x : ℕ) → number_at v x ≡ number_at w x) → IsWalk r w → IsWalk r v
walk_same r w v found numbers walk = record {
  found = subst (Each (IsFound r)) (sym found) walk.found;
  numbers = λ k d low.
      ap (λ l. number_at v (block_seen (get_or l k d))) found ∙ numbers (block_seen (get_or w.found k d))
      ∙ walk.numbers k d (let e = ap length found in omega (arith, low, e));
  places = λ x k d is.
      let p = walk.places x k d (sym (numbers x) ∙ is) in
      ((let e = ap length found in let q = p.0 in omega (arith, q, e)), ap (λ l. block_seen (get_or l k d)) found ∙ p.1);
}

-- ---- a new number

module _ (w : State) (s : Seen) (none : number_at w s.block ≡ 0) (there : s.block < length w.numbers) where
  abbrev pub noted : State
  noted = record { found = w.found ++ s ∷ []; numbers = set w.numbers s.block (suc (length w.found)) }

  here : number_at noted s.block ≡ suc (length w.found)
  here = get_or-set_same w.numbers s.block (suc (length w.found)) 0 there

  elsewhere : (x : ℕ) → (x ≡ s.block → ⊥) → number_at noted x ≡ number_at w x
  elsewhere x other = get_or-set_other w.numbers s.block x (suc (length w.found)) 0 other

  pub noted_grows : Grows w noted
  noted_grows = record {
    longer = let l = length_front w.found s in omega (arith, l);
    found = λ k d low. push_low w.found s d k low;
    numbers = λ x some. elsewhere x (λ e. let z : number_at w x ≡ 0 = ap (number_at w) e ∙ none in absurd (omega (arith, some, z)));
  }

  pub noted_low : AreLow w → AreLow noted
  noted_low low x =
      let l = length_front w.found s in
      elim (cases_eq x s.block) [
        | inl e ↦ let n : number_at noted x ≡ suc (length w.found) = ap (number_at noted) e ∙ here in omega (arith, n, l)
        | inr ne ↦ let n = elsewhere x ne in let old = low x in omega (arith, n, l, old)
      ]

  module _ (r : Run) (walk : IsWalk r w) (is : IsFound r s) where
    numbers_noted : (k : ℕ) (d : Seen) → k < length noted.found → number_at noted (block_seen (get_or noted.found k d)) ≡ suc k
    numbers_noted k d low =
        elim (cases_lt k (length w.found)) [
          | inl less ↦ let old = walk.numbers k d less in
              let same : get_or noted.found k d ≡ get_or w.found k d = push_low w.found s d k less in
              let other : (block_seen (get_or w.found k d) ≡ s.block → ⊥) = λ e. let z : suc k ≡ 0 = sym old ∙ ap (number_at w) e ∙ none in absurd (omega (arith, z)) in
              ap (λ (y : Seen). number_at noted y.block) same ∙ elsewhere (block_seen (get_or w.found k d)) other ∙ old
          | inr more ↦ let l = length_front w.found s in
              let last : k ≡ length w.found = omega (arith, low, more, l) in
              let same : get_or noted.found k d ≡ s = ap (λ i. get_or noted.found i d) last ∙ at_front w.found s [] d in
              ap (λ (y : Seen). number_at noted y.block) same ∙ here ∙ ap suc (sym last)
        ]

    places_noted : (x k : ℕ) (d : Seen) → number_at noted x ≡ suc k → (k < length noted.found) × (block_seen (get_or noted.found k d) ≡ x)
    places_noted x k d number =
        elim (cases_eq x s.block) [
          | inl e ↦ let l = length_front w.found s in
              let last : k ≡ length w.found = (let both : suc (length w.found) ≡ suc k = sym here ∙ ap (number_at noted) (sym e) ∙ number in omega (arith, both)) in
              let same : get_or noted.found k d ≡ s = ap (λ i. get_or noted.found i d) last ∙ at_front w.found s [] d in
              (omega (arith, l, last), ap block_seen same ∙ sym e)
          | inr ne ↦ let p = walk.places x k d (sym (elsewhere x ne) ∙ number) in
              let low = p.0 in
              let l = length_front w.found s in
              (omega (arith, low, l), ap block_seen (push_low w.found s d k low) ∙ p.1)
        ]

    pub noted_walk : IsWalk r noted
    noted_walk = record {
      found = each_push (IsFound r) w.found s walk.found is;
      numbers = numbers_noted;
      places = places_noted;
    }

-- ---- the order

turn_on : (n : ℕ) (xs ys : List Value) → AreInTurn n xs → AreInTurn (named_after n xs) ys → AreInTurn n (xs ++ ys)
turn_on n [] ys one two = two
turn_on n (x ∷ xs) ys one two = (one.0, turn_on (max n (serial_in x)) xs ys one.1 two)

named_on : (n : ℕ) (xs ys : List Value) → named_after n (xs ++ ys) ≡ named_after (named_after n xs) ys
named_on n [] ys = refl
named_on n (x ∷ xs) ys = named_on (max n (serial_in x)) xs ys

names_on : (w v u : State) (xs ys : List Value) → HasNamed w v xs → HasNamed v u ys → HasNamed w u (xs ++ ys)
names_on w v u xs ys one two = record {
  low = two.low;
  turn = turn_on (length w.found) xs ys one.turn (subst (λ m. AreInTurn m ys) (sym one.named) two.turn);
  named = named_on (length w.found) xs ys ∙ ap (λ m. named_after m ys) one.named ∙ two.named;
}

names_one : (w v : State) (y : Value) → AreLow v → serial_in y ≤ suc (length w.found) → max (length w.found) (serial_in y) ≡ length v.found → HasNamed w v (y ∷ [])
names_one w v y low turn named = record { low = low; turn = (turn, tt); named = named }

low_same : (w v : State) → v.found ≡ w.found → ((x : ℕ) → number_at v x ≡ number_at w x) → AreLow w → AreLow v
low_same w v found numbers low x = let e = ap length found in let n = numbers x in let old = low x in omega (arith, e, n, old)

named_again : (w v : State) (s : Seen) (n : ℕ) → v.found ≡ w.found → ((x : ℕ) → number_at v x ≡ number_at w x) → n ≡ number_at v s.block → AreLow w
    → HasNamed w v (Ref (record { thread = 0; serial = n }) ∷ [])
named_again w v s n found numbers is low =
    let e = ap length found in
    let old = low s.block in
    let same = numbers s.block in
    names_one w v (Ref (record { thread = 0; serial = n })) (low_same w v found numbers low) (omega (arith, is, same, old)) (omega (arith, is, same, old, e))

named_next : (w u v : State) (s : Seen) (n : ℕ) → u.found ≡ w.found → ((x : ℕ) → number_at u x ≡ number_at w x)
    → (none : number_at u s.block ≡ 0) → (there : s.block < length u.numbers) → v ≡ noted u s none there → n ≡ suc (length u.found) → AreLow w
    → HasNamed w v (Ref (record { thread = 0; serial = n }) ∷ [])
named_next w u v s n found numbers none there new is low =
    let e = ap length found in
    let l = length_front u.found s in
    let f : length v.found ≡ length (u.found ++ s ∷ []) = ap (λ (x : State). length x.found) new in
    names_one w v (Ref (record { thread = 0; serial = n })) (subst AreLow (sym new) (noted_low u s none there (low_same w u found numbers low)))
    (omega (arith, is, e)) (omega (arith, is, e, l, f))

-- what `number` leaves: a table that is long enough, and the number that was there
pub number_kept : (w v : State) (s : Seen) (n : ℕ) → v.found ≡ w.found → ((x : ℕ) → number_at v x ≡ number_at w x)
    → n ≡ number_at v s.block → 0 < n → HasNoted w v s n
number_kept w v s n found numbers is some = record {
  some = some;
  number = is;
  grows = grows_same w v found numbers;
  walk = λ r here walk. walk_same r w v found numbers walk;
  order = λ low. named_again w v s n found numbers is low;
}

-- or a new one
pub number_new : (w u v : State) (s : Seen) (n : ℕ) → u.found ≡ w.found → ((x : ℕ) → number_at u x ≡ number_at w x)
    → (none : number_at u s.block ≡ 0) → (there : s.block < length u.numbers) → v ≡ noted u s none there → n ≡ length v.found → HasNoted w v s n
number_new w u v s n found numbers none there new long =
    let number : n ≡ suc (length u.found) = long ∙ ap (λ (x : State). length x.found) new ∙ length_front u.found s in
    record {
      some = omega (arith, number);
      number = number ∙ sym (ap (λ (x : State). number_at x s.block) new ∙ here u s none there);
      grows = subst (Grows w) (sym new) (grows_on w u (noted u s none there) (grows_same w u found numbers) (noted_grows u s none there));
      walk = λ r at walk. subst (IsWalk r) (sym new) (noted_walk u s none there r (walk_same r w u found numbers walk) at);
      order = λ low. named_next w u v s n found numbers none there new number low;
    }

-- ---- values

pub one_read : (w v : State) (s : Seen) (a : Name) (n : ℕ) → s.value ≡ Ref a → HasNoted w v s n → ReadsOne w v s (Ref (record { thread = 0; serial = n }))
one_read w v s a n is noted = record {
  some = subst (λ y. HasNumberAt v y s.block) (sym is) (subst (λ m. 0 < m) noted.number noted.some);
  value = ap (λ m. Ref (record { thread = 0; serial = m })) noted.number ∙ ap (λ y. numbered_at v y s.block) (sym is);
  grows = noted.grows;
  walk = λ r seen walk. noted.walk r (a, is, subst (λ y. IsSeenAt r y s.block) is seen) walk;
  order = noted.order;
}

each_front : {A : Type 0} (P : A → Type 0) (xs : List A) (x : A) → Each P (xs ++ x ∷ []) → Each P xs × P x
each_front P [] x all = (tt, all.0)
each_front P (y ∷ xs) x all = let rest = each_front P xs x all.1 in ((all.0, rest.0), rest.1)

pub read_on : (w v u : State) (xs : List Seen) (x : Seen) (ys : List Value) (y : Value) → Reads w v xs ys → ReadsOne v u x y
    → Reads w u (xs ++ x ∷ []) (ys ++ y ∷ [])
read_on w v u xs x ys y all one = record {
  some = each_push (HasNumber u) xs x (some_on v u one.grows xs all.some) one.some;
  values = (λ i. all.values i ++ one.value i ∷ []) ∙ ap (λ l. l ++ numbered u x ∷ []) (values_on v u one.grows xs all.some) ∙ sym (map_push (numbered u) xs x);
  grows = grows_on w v u all.grows one.grows;
  walk = λ r seen walk.
      let parts = each_front (IsSeen r) xs x seen in
      one.walk r parts.1 (all.walk r parts.0 walk);
  order = λ low. let front = all.order low in names_on w v u ys (y ∷ []) front (one.order front.low);
}

-- one value more of a list
pub read_more : (w v u : State) (xs : List Seen) (i : ℕ) (d : Seen) (ys zs : List Value) (y : Value) → i < length xs → zs ≡ ys ++ y ∷ []
    → Reads w v (take i xs) ys → ReadsOne v u (get_or xs i d) y → Reads w u (take (i + 1) xs) zs
read_more w v u xs i d ys zs y low last all one =
    let next : i + 1 ≡ suc i = omega arith in
    let more : take (i + 1) xs ≡ take i xs ++ get_or xs i d ∷ [] = ap (λ j. take j xs) next ∙ take-suc xs i d low in
    subst (λ l. Reads w u l zs) (sym more)
    (subst (λ l. Reads w u (take i xs ++ get_or xs i d ∷ []) l) (sym last) (read_on w v u (take i xs) (get_or xs i d) ys y all one))
