-- A round of marking over the names of a graph.
use Rattle.std.proofs.Common.{ℕ, ◌+◌, ◌-◌, add-one, cond, eqb, leb, eq-eqb, ne_eqb, ◌≡◌, ◌<◌, Bool, true, false, ◌&&◌, ◌||◌, List, [], length, get_or, take, ap, sym, ◌∙◌, refl, subst, arith, inl, inr}
use Rattle.std.specs.List.{list_any}
use Rattle.std.proofs.lemmas.Bool.{cases_eq, cases_lt, le-leb, both_ways, or_cases, or_parts, or_left, or_right, and_from, and_parts}
use Rattle.std.proofs.lemmas.List.{get_or_past}
use Rattle.std.proofs.lemmas.List.Folds.{list_any_more}
use Rattle.block_store.specs.declared.Name.{Name}
use Rattle.block_store.specs.declared.Value.{Value}
use Rattle.never_heap.specs.Graphs.{Graph, object_of, has_name}
use Rattle.never_heap.specs.Marks.{Marked, has_place, has_mark}
use Rattle.never_heap.specs.Reach.{stands_in, names, in_round, reachable}
use Rattle.never_heap.proofs.NameLists.{place_of_name, stands_at, any_of_names}
use Rattle.never_heap.proofs.ReachableNames.{any_more, from_registers, in_register, field_there, reached_by, round_of_all, reachable_closed, reachable_least}
use Rattle.never_heap.proofs.StepChanges.{has_field}

-- what a round over some names adds to marks
pub record Rounded (g : Graph) (old new : Marked) (is_new : Bool) (xs : List Name) : Type 0 where
  pub places : (b : Name) → has_place new b ≡ has_place old b
  pub kept : (b : Name) → has_mark old b ≡ true → has_mark new b ≡ true
  pub led : (a : Name) → list_any
      (λ (b : Name). has_mark old b && stands_in a (object_of g b).fields) xs ≡ true
      → has_place old a ≡ true → has_mark new a ≡ true
  pub sound : ((b : Name) → has_mark old b ≡ true → reachable g b ≡ true) → (b : Name)
      → has_mark new b ≡ true → reachable g b ≡ true
  pub unchanged : is_new ≡ false → new ≡ old

pub rounded_none : (g : Graph) (m : Marked) → Rounded g m m false []
rounded_none g m = record {
  places = λ b. refl;
  kept = λ b h. h;
  led = λ a h p. absurd (let e : false ≡ true = h in cc);
  sound = λ s. s;
  unchanged = λ _. refl;
}

-- the same under other names
pub rounded_as : (g : Graph) (old m n : Marked) (a b : Bool) (xs : List Name) → n ≡ m → b ≡ a
    → Rounded g old m a xs → Rounded g old n b xs
rounded_as g old m n a b xs e f s =
    subst (λ x. Rounded g old x b xs) (sym e) (subst (λ x. Rounded g old m x xs) (sym f) s)

-- a marked object that leads to a name
abbrev leads : Graph → Marked → Name → Name → Bool
leads g old a b = has_mark old b && stands_in a (object_of g b).fields

module _ (g : Graph) (old mid : Marked) (is_new : Bool) (xs : List Name) (i : ℕ) (x d : Name)
    (here : i < length xs) (is : x ≡ get_or xs i d)
    (s : Rounded g old mid is_new (take i xs)) where
  -- what the first names or the next one lead to
  one_more : (a : Name) → list_any (leads g old a) (take (i + 1) xs)
      ≡ (list_any (leads g old a) (take i xs) || leads g old a x)
  one_more a = list_any_more (leads g old a) xs i d here
      ∙ ap (λ y. list_any (leads g old a) (take i xs) || leads g old a y) (sym is)

  -- an object that is not marked leads nowhere
  pub rounded_skip : has_mark mid x ≡ false → Rounded g old mid is_new (take (i + 1) xs)
  rounded_skip unmarked = record {
    places = s.places;
    kept = s.kept;
    led = λ a h p. elim (or_cases (list_any (leads g old a) (take i xs)) (leads g old a x)
        (sym (one_more a) ∙ h)) [
          | inl before ↦ s.led a before p
          | inr last ↦ absurd (both_ways (has_mark mid x) unmarked
              (s.kept x (and_parts (has_mark old x) (stands_in a (object_of g x).fields) last).0))
        ];
    sound = s.sound;
    unchanged = s.unchanged;
  }

  -- one that is marked leads to the names in its fields
  pub rounded_more : (new : Marked) (more : Bool) (vs : List Value) → has_mark mid x ≡ true
      → vs ≡ (object_of g x).fields
      → ((b : Name) → has_mark new b ≡ (has_mark mid b || (stands_in b vs && has_place mid b)))
      → ((b : Name) → has_place new b ≡ has_place mid b) → (more ≡ false → new ≡ mid)
      → Rounded g old new (is_new || more) (take (i + 1) xs)
  rounded_more new more vs marked fields marks places unchanged = record {
    places = λ b. places b ∙ s.places b;
    kept = λ b h. marks b ∙ or_left (has_mark mid b) (stands_in b vs && has_place mid b)
        (s.kept b h);
    led = λ a h p. elim (or_cases (list_any (leads g old a) (take i xs)) (leads g old a x)
        (sym (one_more a) ∙ h)) [
          | inl before ↦ marks a ∙ or_left (has_mark mid a) (stands_in a vs && has_place mid a)
              (s.led a before p)
          | inr last ↦ marks a ∙ or_right (has_mark mid a) (stands_in a vs && has_place mid a)
              (and_from (stands_in a vs) (has_place mid a)
              (ap (stands_in a) fields ∙ (and_parts (has_mark old x)
              (stands_in a (object_of g x).fields) last).1) (s.places a ∙ p))
        ];
    sound = λ before a h. elim
        (or_cases (has_mark mid a) (stands_in a vs && has_place mid a) (sym (marks a) ∙ h)) [
          | inl was ↦ s.sound before a was
          | inr last ↦
              let stands : stands_in a (object_of g x).fields ≡ true =
              sym (ap (stands_in a) fields)
              ∙ (and_parts (stands_in a vs) (has_place mid a) last).0 in
              let place = place_of_name a (object_of g x).fields stands in
              (reachable_closed g).fields x a place.0 (s.sound before x marked) place.2
        ];
    unchanged = λ e. let parts = or_parts is_new more e in unchanged parts.1 ∙ s.unchanged parts.0;
  }

-- marks of reachable objects alone, which has those of a round
pub record MarksRound (g : Graph) (m : Marked) (j : ℕ) : Type 0 where
  pub places : (b : Name) → has_place m b ≡ has_name g b
  pub sound : (b : Name) → has_mark m b ≡ true → reachable g b ≡ true
  pub round : (b : Name) → in_round g j b ≡ true → has_name g b ≡ true → has_mark m b ≡ true

-- what is marked has a place
pub mark_place : (m : Marked) (b : Name) → has_mark m b ≡ true → has_place m b ≡ true
mark_place m b h = elim (cases_eq b.serial 0) [
  | inl z ↦
      let here : (eqb b.thread (length m.rows) && m.shared) ≡ true =
      sym (ap (λ k. cond k (eqb b.thread (length m.rows) && m.shared)
      (get_or (get_or m.rows b.thread []) (b.serial - 1) false)) (eq-eqb b.serial 0 z)) ∙ h in
      ap (λ k. cond k (eqb b.thread (length m.rows))
      (leb b.serial (length (get_or m.rows b.thread [])))) (eq-eqb b.serial 0 z)
      ∙ (and_parts (eqb b.thread (length m.rows)) m.shared here).0
  | inr n ↦
      let here : get_or (get_or m.rows b.thread []) (b.serial - 1) false ≡ true =
      sym (ap (λ k. cond k (eqb b.thread (length m.rows) && m.shared)
      (get_or (get_or m.rows b.thread []) (b.serial - 1) false)) (ne_eqb b.serial 0 n)) ∙ h in
      ap (λ k. cond k (eqb b.thread (length m.rows))
      (leb b.serial (length (get_or m.rows b.thread [])))) (ne_eqb b.serial 0 n)
      ∙ elim (cases_lt (b.serial - 1) (length (get_or m.rows b.thread []))) [
        | inl l ↦ le-leb b.serial (length (get_or m.rows b.thread [])) (omega arith)
        | inr l ↦ absurd (both_ways (get_or (get_or m.rows b.thread []) (b.serial - 1) false)
            (get_or_past (get_or m.rows b.thread []) (b.serial - 1) false l) here)
      ]
]

-- round 0 is marked once the registers are
pub first_round : (g : Graph) (none m : Marked) → ((b : Name) → has_place none b ≡ has_name g b)
    → ((b : Name) → has_mark none b ≡ false)
    → ((b : Name) → has_mark m b ≡ (has_mark none b || (in_round g 0 b && has_place none b)))
    → ((b : Name) → has_place m b ≡ has_place none b) → MarksRound g m 0
first_round g none m places empty marks kept =
    let all : (b : Name) → has_mark m b ≡ (in_round g 0 b && has_name g b) =
    λ b. marks b ∙ ap (λ x. x || (in_round g 0 b && has_place none b)) (empty b)
    ∙ ap (λ x. in_round g 0 b && x) (places b) in
    record {
      places = λ b. kept b ∙ places b;
      sound = λ b h. reached_by g 0 b
          (and_parts (in_round g 0 b) (has_name g b) (sym (all b) ∙ h)).0;
      round = λ b h n. all b ∙ and_from (in_round g 0 b) (has_name g b) h n;
    }

-- the next round is marked after a round over all names
pub next_round : (g : Graph) (old new : Marked) (is_new : Bool) (j : ℕ) → MarksRound g old j
    → Rounded g old new is_new (names g) → MarksRound g new (j + 1)
next_round g old new is_new j before r = record {
  places = λ b. r.places b ∙ before.places b;
  sound = r.sound before.sound;
  round = λ b h n. elim (or_cases (in_round g j b)
      (list_any (λ (a : Name). in_round g j a && stands_in b (object_of g a).fields) (names g))
      (sym (ap (λ k. in_round g k b) (add-one j)) ∙ h)) [
        | inl was ↦ r.kept b (before.round b was n)
        | inr new_one ↦ r.led b (any_more _ (leads g old b) (names g) (λ a l.
            let parts = and_parts (in_round g j a) (stands_in b (object_of g a).fields) l in
            let place = place_of_name b (object_of g a).fields parts.1 in
            and_from (has_mark old a) (stands_in b (object_of g a).fields)
            (before.round a parts.0 (has_field g a place.0 place.1)) parts.1) new_one)
            (before.places b ∙ n)
      ];
}

pub both_true : (p q r : Bool) → (p ≡ true → (q ≡ true) × (r ≡ true))
    → (q ≡ true → r ≡ true → p ≡ true) → p ≡ (q && r)
both_true true q r f h = sym (and_from q r (f refl).0 (f refl).1)
both_true false true true f h = h refl refl
both_true false true false f h = refl
both_true false false r f h = refl

-- after the last round all reachable objects are marked
pub last_round : (g : Graph) (m : Marked) (j : ℕ) → j ≡ length (names g) → MarksRound g m j
    → (b : Name) → has_mark m b ≡ (reachable g b && has_name g b)
last_round g m j all s b = both_true (has_mark m b) (reachable g b) (has_name g b)
    (λ h. (s.sound b h, sym (s.places b) ∙ mark_place m b h))
    (λ h n. s.round b (round_of_all g j b all h) n)

-- and also after a round that marked nothing
pub no_more_rounds : (g : Graph) (old new : Marked) (is_new : Bool) (j : ℕ) → MarksRound g old j
    → Rounded g old new is_new (names g) → is_new ≡ false
    → (b : Name) → has_mark new b ≡ (reachable g b && has_name g b)
no_more_rounds g old new is_new j before r ended b =
    let same : new ≡ old = r.unchanged ended in
    both_true (has_mark new b) (reachable g b) (has_name g b)
    (λ h. (r.sound before.sound b h, sym (r.places b ∙ before.places b) ∙ mark_place new b h))
    (λ h n. reachable_least g (λ a. has_name g a ≡ true → has_mark new a ≡ true)
    (λ t k a e m. r.kept a (before.round a (from_registers g j a (in_register g t k a e)) m))
    (λ c a i f e m.
    let there : has_name g c ≡ true = has_field g c i (field_there g c a i e) in
    let marked : has_mark old c ≡ true = sym (ap (λ x. has_mark x c) same) ∙ f there in
    r.led a (any_of_names g (leads g old a) c there
    (and_from (has_mark old c) (stands_in a (object_of g c).fields) marked
    (stands_at a (object_of g c).fields i e))) (before.places a ∙ m))
    b h n)

-- a round over a list that has all names
pub rounded_over : (g : Graph) (old new : Marked) (is_new : Bool) (xs : List Name) → xs ≡ names g
    → Rounded g old new is_new xs → Rounded g old new is_new (names g)
rounded_over g old new is_new xs e r = subst (λ ys. Rounded g old new is_new ys) e r
