-- A scan over what can be reached finds each object once.
use Rattle.std.proofs.Common.{ℕ, ◌+◌, ◌≡◌, ◌<◌, ◌≤◌, Bool, true, false, ◌&&◌, ◌||◌, cond, List, [], ◌∷◌, ◌++◌, length, get_or, take, ap, sym, ◌∙◌, refl, subst, arith, inl, inr, append-nil, append_assoc}
use Rattle.std.specs.List.{list_any, sum_by}
use Rattle.std.proofs.lemmas.Bool.{cases_eq, cases_Bool, or_cases, or_left, or_right, both_ways}
use Rattle.std.proofs.lemmas.List.Sums.{sum_by-cons}
use Rattle.std.proofs.lemmas.List.Folds.{list_any-append, list_any_more, list_any_at}
use Rattle.std.proofs.lemmas.List.{length_push, take_all, get_or_append_left, get_or_default}
use Rattle.block_store.specs.declared.Name.{Name}
use Rattle.block_store.specs.declared.Width.{Width}
use Rattle.block_store.specs.Registers.{registers_end}
use Rattle.block_store.proofs.Lemmas.{end_few}
use Rattle.block_store.specs.declared.Value.{Value}
use Rattle.block_store.specs.declared.Value.TheVariants.{Nil, Ref}
use Rattle.never_heap.specs.Graphs.{Graph, Mutator, same_name, has_name, object_of}
use Rattle.never_heap.specs.LiveBlocks.{object_blocks, live_blocks}
use Rattle.never_heap.specs.Marks.{Marked, has_place, has_mark}
use Rattle.never_heap.specs.Reach.{names, refers, stands_in, reachable}
use Rattle.never_heap.specs.Scans.{Scanned, Finds, HasRegisters}
use Rattle.never_heap.proofs.NameLists.{one_name, same_itself, any_place, place_of_name, stands_at}
use Rattle.never_heap.proofs.DistinctNames.{same_turned, one_more_weight}
use Rattle.never_heap.proofs.ReachableNames.{reached_by, reachable_closed, reachable_least, in_register, field_there}
use Rattle.never_heap.proofs.Rounds.{both_true, mark_place}
use Rattle.never_heap.proofs.StepChanges.{has_field}
use Rattle.never_heap.proofs.Sums.{marked_blocks, live_of_marked}

-- a weight of at most one for each name
weight_low : (m : Marked) (xs : List Name)
    → sum_by (λ (a : Name). cond (has_mark m a) 1 0) xs ≤ length xs
weight_low m [] = omega arith
weight_low m (x ∷ xs) =
    let sum = sum_by-cons (λ (a : Name). cond (has_mark m a) 1 0) x xs in
    let rest = weight_low m xs in
    let here = low (has_mark m x) in
    omega arith
  where
    low : (b : Bool) → cond b 1 0 ≤ 1
    low true = omega arith
    low false = omega arith

pub found_few : (w : Width) (g : Graph) (m : Marked) (found : List Name) (blocks : ℕ)
    → Scanned w g m found blocks → length found ≤ length (names g)
found_few w g m found blocks s = let low = weight_low m (names g) in omega (arith, s.once)

-- ---- one name

module _ (w : Width) (g : Graph) (old new : Marked) (found : List Name) (blocks : ℕ) (a : Name)
    (s : Scanned w g old found blocks)
    (marks : (b : Name) → has_mark new b ≡ (has_mark old b || (same_name a b && has_place old b)))
    (places : (b : Name) → has_place new b ≡ has_place old b) where
  kept_one : (b : Name) → has_mark old b ≡ true → has_mark new b ≡ true
  kept_one b h = marks b ∙ or_left (has_mark old b) (same_name a b && has_place old b) h

  marked_here : has_name g a ≡ true → has_mark new a ≡ true
  marked_here has = marks a
      ∙ or_right (has_mark old a) (same_name a a && has_place old a)
      (ap (λ (x : Bool). x && has_place old a) (same_itself a) ∙ s.places a ∙ has)

  -- of the values only the one name counts
  only_one : (b : Name) → stands_in b (Ref a ∷ []) ≡ true → has_name g b ≡ true
      → has_mark new b ≡ true
  only_one b h has = elim (or_cases (same_name a b) false h) [
    | inl e ↦ subst (λ (x : Name). has_mark new x ≡ true) (one_name a b e)
        (marked_here (subst (λ (x : Name). has_name g x ≡ true) (sym (one_name a b e)) has))
    | inr e ↦ absurd (let f : false ≡ true = e in cc)
  ]

  pub finds_one : (more after : List Name) → after ≡ found ++ more
      → Finds g old new found after (Ref a ∷ [])
  finds_one more after e = record { kept = kept_one; all = only_one; behind = (more, e) }

  -- one that was not found before
  module _ (free : has_mark old a ≡ false) (place : has_place old a ≡ true) where
    has_it : has_name g a ≡ true
    has_it = sym (s.places a) ∙ place

    adds : (b : Name) → has_mark new b ≡ (has_mark old b || same_name a b)
    adds b = marks b ∙ elim (cases_Bool (same_name a b)) [
      | inl e ↦ ap (λ (x : Bool). has_mark old b || (same_name a b && x))
          (subst (λ (x : Name). has_place old x ≡ true) (one_name a b e) place)
          ∙ yes (has_mark old b) (same_name a b)
      | inr e ↦ ap (λ (x : Bool). has_mark old b || (x && has_place old b)) e
          ∙ ap (λ (x : Bool). has_mark old b || x) (sym e)
    ]
      where
        yes : (p q : Bool) → (p || (q && true)) ≡ (p || q)
        yes true q = refl
        yes false true = refl
        yes false false = refl

    turned : (b : Name) → has_mark new b ≡ (has_mark old b || same_name b a)
    turned b = adds b ∙ ap (λ (x : Bool). has_mark old b || x) (same_turned a b)

    pub scanned_more : (k : ℕ) → reachable g a ≡ true → k ≡ object_blocks w (object_of g a)
        → k ≤ 21845 → Scanned w g new (found ++ a ∷ []) (blocks + k)
    scanned_more k reached is low = record {
      places = λ b. places b ∙ s.places b;
      sound = λ b h. elim (or_cases (has_mark old b) (same_name a b) (sym (adds b) ∙ h)) [
        | inl before ↦ s.sound b before
        | inr here ↦ subst (λ (x : Name). reachable g x ≡ true) (one_name a b here) reached
      ];
      listed = λ b. list_any-append (same_name b) found (a ∷ [])
          ∙ ap (λ (x : Bool). x || (same_name b a || false)) (s.listed b)
          ∙ last (has_mark old b) (same_name b a)
          ∙ ap (λ (x : Bool). has_mark old b || x) (same_turned b a) ∙ sym (adds b);
      once = (let more = one_more_weight (λ _. 1) a (has_mark old)
          (has_mark new) free turned g has_it in let long = length_push found a in
          let was = s.once in omega arith);
      sum = (let more = one_more_weight (λ (b : Name). object_blocks w (object_of g b)) a
          (has_mark old) (has_mark new) free turned g has_it in let was = s.sum in omega arith);
      small = (let long = length_push found a in let was = s.small in omega arith);
    }
      where
        last : (p q : Bool) → (p || (q || false)) ≡ (p || q)
        last true q = refl
        last false true = refl
        last false false = refl

-- ---- a list of values

pub finds_none : (g : Graph) (m : Marked) (xs : List Name) → Finds g m m xs xs []
finds_none g m xs = record {
  kept = λ b h. h;
  all = λ b h has. absurd (let e : false ≡ true = h in cc);
  behind = ([], sym (append-nil xs));
}

module _ (g : Graph) (old mid new : Marked) (xs ys zs : List Name) (vs : List Value) (i : ℕ)
    (here : i < length vs) (f : Finds g old mid xs ys (take i vs)) where
  pub finds_other : ((a : Name) → refers a (get_or vs i Nil) ≡ false)
      → Finds g old mid xs ys (take (i + 1) vs)
  finds_other none = record {
    kept = f.kept;
    all = λ b h has. elim (or_cases (stands_in b (take i vs)) (refers b (get_or vs i Nil))
        (sym (list_any_more (refers b) vs i Nil here) ∙ h)) [
          | inl before ↦ f.all b before has
          | inr now ↦ absurd (both_ways (refers b (get_or vs i Nil)) (none b) now)
        ];
    behind = f.behind;
  }

  pub finds_more : (a : Name) → get_or vs i Nil ≡ Ref a → Finds g mid new ys zs (Ref a ∷ [])
      → Finds g old new xs zs (take (i + 1) vs)
  finds_more a is one = record {
    kept = λ b h. one.kept b (f.kept b h);
    all = λ b h has. elim (or_cases (stands_in b (take i vs)) (refers b (get_or vs i Nil))
        (sym (list_any_more (refers b) vs i Nil here) ∙ h)) [
          | inl before ↦ one.kept b (f.all b before has)
          | inr now ↦ one.all b (or_left (refers b (Ref a)) false (sym (ap (refers b) is) ∙ now))
              has
        ];
    behind = (
      f.behind.0 ++ one.behind.0,
      one.behind.1
          ∙ ap (λ (l : List Name). l ++ one.behind.0) f.behind.1
          ∙ append_assoc xs f.behind.0 one.behind.0,
    );
  }

-- ---- registers

unmarked_weight : (w : Name → ℕ) (m : Marked) (xs : List Name)
    → ((b : Name) → has_mark m b ≡ false)
    → sum_by (λ (a : Name). cond (has_mark m a) (w a) 0) xs ≡ 0
unmarked_weight w m [] none = refl
unmarked_weight w m (x ∷ xs) none =
    let sum = sum_by-cons (λ (a : Name). cond (has_mark m a) (w a) 0) x xs in
    let here : cond (has_mark m x) (w x) 0 ≡ 0 = ap (λ (b : Bool). cond b (w x) 0) (none x) in
    let rest = unmarked_weight w m xs none in
    omega arith

pub scanned_none : (w : Width) (g : Graph) (m : Marked) (blocks : ℕ)
    → ((b : Name) → has_place m b ≡ has_name g b) → ((b : Name) → has_mark m b ≡ false)
    → blocks ≡ registers_end w (length g.mutators) → length g.mutators ≤ 16
    → Scanned w g m [] blocks
scanned_none w g m blocks places none is few = record {
  places = places;
  sound = λ b h. absurd (both_ways (has_mark m b) (none b) h);
  listed = λ b. sym (none b);
  once = sym (unmarked_weight (λ _. 1) m (names g) none);
  sum = (let sum = unmarked_weight (λ (a : Name). object_blocks w (object_of g a)) m
      (names g) none in omega arith);
  small = (let low = end_few w (length g.mutators) few in omega arith);
}

-- what is in the registers of the first threads is marked
abbrev pub HasFirst : Graph → Marked → List Mutator → ℕ → Type 0
HasFirst g m ms i = (b : Name)
    → list_any (λ (x : Mutator). stands_in b x.registers) (take i ms) ≡ true → has_name g b ≡ true
    → has_mark m b ≡ true

module _ (g : Graph) (ms : List Mutator) (i : ℕ) (x : Mutator) (same : ms ≡ g.mutators)
    (here : i < length ms) (is : x ≡ get_or ms i x) where
  pub register_reached : (b : Name) → stands_in b x.registers ≡ true → reachable g b ≡ true
  register_reached b h = reached_by g 0 b
      (subst (λ (l : List Mutator). list_any (λ (y : Mutator). stands_in b y.registers) l
      ≡ true) same
      (list_any_at (λ (y : Mutator). stands_in b y.registers) ms i x here
      (subst (λ (y : Mutator). stands_in b y.registers ≡ true) is h)))

  pub first_more : (old new : Marked) (before after : List Name) → HasFirst g old ms i
      → Finds g old new before after x.registers → HasFirst g new ms (i + 1)
  first_more old new before after was f b h has =
      elim (or_cases (list_any (λ (y : Mutator). stands_in b y.registers) (take i ms))
      (stands_in b (get_or ms i x).registers)
      (sym (list_any_more (λ (y : Mutator). stands_in b y.registers) ms i x here) ∙ h)) [
        | inl before ↦ f.kept b (was b before has)
        | inr now ↦ f.all b (subst (λ (y : Mutator). stands_in b y.registers ≡ true)
            (sym is) now) has
      ]

pub first_all : (g : Graph) (m : Marked) (ms : List Mutator) (i : ℕ) → ms ≡ g.mutators
    → length ms ≤ i → HasFirst g m ms i → HasRegisters g m
first_all g m ms i same all was b h has =
    was b (subst (λ (l : List Mutator). list_any (λ (y : Mutator). stands_in b y.registers) l
    ≡ true) (sym (take_all i ms all ∙ same)) h) has

-- ---- what was found leads to what is found

-- what the first objects found lead to is marked
abbrev pub HasLed : Graph → Marked → List Name → ℕ → Type 0
HasLed g m found next = (k : ℕ) (d : Name) → k < next → (b : Name)
    → stands_in b (object_of g (get_or found k d)).fields ≡ true → has_name g b ≡ true
    → has_mark m b ≡ true

module _ (w : Width) (g : Graph) (m : Marked) (found : List Name) (blocks next : ℕ) (a : Name)
    (s : Scanned w g m found blocks) (here : next < length found)
    (is : a ≡ get_or found next a) where
  pub led_reached : (b : Name) → stands_in b (object_of g a).fields ≡ true → reachable g b ≡ true
  led_reached b h =
      let among : list_any (same_name a) found ≡ true =
      list_any_at (same_name a) found next a here
      (subst (λ (x : Name). same_name a x ≡ true) is (same_itself a)) in
      let place = place_of_name b (object_of g a).fields h in
      (reachable_closed g).fields a b place.0 (s.sound a (sym (s.listed a) ∙ among)) place.2

  pub led_more : (new : Marked) (after : List Name) → HasLed g m found next
      → Finds g m new found after (object_of g a).fields → HasLed g new after (next + 1)
  led_more new after was f k d low b h has =
      let there : k < length found = omega arith in
      let same : get_or after k d ≡ get_or found k d =
      ap (λ (l : List Name). get_or l k d) f.behind.1
      ∙ get_or_append_left found f.behind.0 d k there in
      let old : stands_in b (object_of g (get_or found k d)).fields ≡ true =
      sym (ap (λ (x : Name). stands_in b (object_of g x).fields) same) ∙ h in
      elim (cases_eq k next) [
        | inl e ↦ (let this : get_or found k d ≡ a = ap (λ (j : ℕ). get_or found j d) e
            ∙ get_or_default found next d a here ∙ sym is in
            f.all b (sym (ap (λ (x : Name). stands_in b (object_of g x).fields) this) ∙ old) has)
        | inr ne ↦ f.kept b (was k d (omega arith) b old has)
      ]

-- where all that was found was looked through, all that can be reached is marked
module _ (w : Width) (g : Graph) (m : Marked) (found : List Name) (blocks next : ℕ)
    (s : Scanned w g m found blocks) (registers : HasRegisters g m) (led : HasLed g m found next)
    (all : length found ≤ next) where
  complete : (b : Name) → reachable g b ≡ true → has_name g b ≡ true → has_mark m b ≡ true
  complete = reachable_least g (λ a. has_name g a ≡ true → has_mark m a ≡ true)
      (λ t r a e has. registers a (in_register g t r a e) has)
      (λ c a i f e has.
      let there : has_name g c ≡ true = has_field g c i (field_there g c a i e) in
      let place = any_place (same_name c) found c (s.listed c ∙ f there) in
      led place.0 c (omega (arith, place.1)) a
      (subst (λ (x : Name). stands_in a (object_of g x).fields ≡ true)
      (one_name c (get_or found place.0 c) place.2)
      (stands_at a (object_of g c).fields i e)) has)

  pub all_live : blocks ≡ live_blocks w g
  all_live =
      let marks : (b : Name) → has_mark m b ≡ (reachable g b && has_name g b) =
      λ b. both_true (has_mark m b) (reachable g b) (has_name g b)
      (λ h. (s.sound b h, sym (s.places b) ∙ mark_place m b h)) (λ h n. complete b h n) in
      live_of_marked w g m (names g) (length (names g)) blocks refl (omega arith) marks
      (s.sum ∙ ap (λ (l : List Name). registers_end w (length g.mutators) + marked_blocks w g m l)
      (sym (take_all (length (names g)) (names g) (omega arith))))
