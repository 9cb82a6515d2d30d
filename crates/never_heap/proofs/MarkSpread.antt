-- Marks that spread over lists of values.
use Rattle.std.proofs.Common.{ℕ, zero, suc, ◌+◌, ◌-◌, eqb, map, replicate, eq-eqb, ne_eqb, ◌≡◌, ◌<◌, Bool, true, false, ◌&&◌, ◌||◌, cond, List, [], ◌∷◌, length, get_or, take, ap, sym, ◌∙◌, refl, subst, arith, inl, inr}
use Rattle.std.proofs.lemmas.List.{get_or-replicate, get_or_past, length-replicate}
use Rattle.std.proofs.lemmas.Bool.{cases_eq, cases_lt, or_parts}
use Rattle.std.proofs.lemmas.List.Folds.{list_any_more}
use Rattle.block_store.specs.declared.Name.{Name}
use Rattle.block_store.specs.declared.Value.{Value}
use Rattle.block_store.specs.declared.Value.TheVariants.{Nil, Int, Ref}
use Rattle.never_heap.specs.Graphs.{Mutator, same_name}
use Rattle.never_heap.specs.Marks.{Marked, has_place, has_mark}
use Rattle.never_heap.specs.Reach.{refers, stands_in}

-- what a list of values adds to marks, and whether it added one
pub record Spread (old new : Marked) (is_new : Bool) (vs : List Value) : Type 0 where
  pub marks : (b : Name) → has_mark new b ≡ (has_mark old b || (stands_in b vs && has_place old b))
  pub places : (b : Name) → has_place new b ≡ has_place old b
  pub unchanged : is_new ≡ false → new ≡ old

or_none : (x y : Bool) → x ≡ (x || (false && y))
or_none true y = refl
or_none false y = refl

pub spread_none : (m : Marked) → Spread m m false []
spread_none m = record {
  marks = λ b. or_none (has_mark m b) (has_place m b);
  places = λ b. refl;
  unchanged = λ _. refl;
}

-- a value that refers to nothing
no_more : (x s p r : Bool) → r ≡ false → (x || (s && p)) ≡ (x || ((s || r) && p))
no_more x true p r e = refl
no_more x false p r e = ap (λ q. x || (q && p)) (sym e)

or_more : (x s p q r : Bool) → (q ≡ true → r ≡ p)
    → ((x || (s && p)) || (q && r)) ≡ (x || ((s || q) && p))
or_more true s p q r e = refl
or_more false true true q r e = refl
or_more false true false true r e = e refl
or_more false true false false r e = refl
or_more false false p true r e = e refl
or_more false false p false r e = refl

module _ (old mid new : Marked) (is_new : Bool) (vs : List Value) (i : ℕ)
    (here : i < length vs) where
  pub spread_other : Spread old mid is_new (take i vs)
      → ((a : Name) → refers a (get_or vs i Nil) ≡ false)
      → Spread old mid is_new (take (i + 1) vs)
  spread_other s none = record {
    marks = λ b. s.marks b ∙ no_more (has_mark old b) (stands_in b (take i vs)) (has_place old b)
        (refers b (get_or vs i Nil)) (none b)
        ∙ ap (λ q. has_mark old b || (q && has_place old b))
        (sym (list_any_more (refers b) vs i Nil here));
    places = s.places;
    unchanged = s.unchanged;
  }

  pub spread_more : (a : Name) (more : Bool) → Spread old mid is_new (take i vs)
      → get_or vs i Nil ≡ Ref a
      → ((b : Name) → has_mark new b ≡ (has_mark mid b || (same_name a b && has_place mid b)))
      → ((b : Name) → has_place new b ≡ has_place mid b) → (more ≡ false → new ≡ mid)
      → Spread old new (is_new || more) (take (i + 1) vs)
  spread_more a more s is marks places unchanged = record {
    marks = λ b. marks b ∙ ap (λ x. x || (same_name a b && has_place mid b)) (s.marks b)
        ∙ or_more (has_mark old b) (stands_in b (take i vs)) (has_place old b) (same_name a b)
        (has_place mid b) (λ _. s.places b)
        ∙ ap (λ q. has_mark old b || ((stands_in b (take i vs) || q) && has_place old b))
        (sym (ap (refers b) is))
        ∙ ap (λ q. has_mark old b || (q && has_place old b))
        (sym (list_any_more (refers b) vs i Nil here));
    places = λ b. places b ∙ s.places b;
    unchanged = λ e. let parts = or_parts is_new more e in unchanged parts.1 ∙ s.unchanged parts.0;
  }

-- the same marks and answer under other names
pub spread_as : (old m n : Marked) (a b : Bool) (vs : List Value) → n ≡ m → b ≡ a
    → Spread old m a vs → Spread old n b vs
spread_as old m n a b vs e f s =
    subst (λ x. Spread old x b vs) (sym e) (subst (λ x. Spread old m x vs) (sym f) s)

pub no_reference : (a : Name) (v : Value) → ((b : Name) → v ≡ Ref b → ⊥) → refers a v ≡ false
no_reference a Nil f = refl
no_reference a (Int n) f = refl
no_reference a (Ref b) f = absurd (f b refl)

-- what names were added to marks
pub record Grown (old new : Marked) (f : Name → Bool) : Type 0 where
  pub marks : (b : Name) → has_mark new b ≡ (has_mark old b || (f b && has_place old b))
  pub places : (b : Name) → has_place new b ≡ has_place old b

and_no : (r : Bool) → (r && false) ≡ false
and_no true = refl
and_no false = refl

both_more : (x s p r q : Bool) → q ≡ p → ((x || (s && p)) || (r && q)) ≡ (x || ((s || r) && p))
both_more true s p r q e = refl
both_more false true true r q e = refl
both_more false true false r q e = ap (λ k. r && k) e ∙ and_no r
both_more false false p r q e = ap (λ k. r && k) e

pub grown_more : (old mid new : Marked) (f h k : Name → Bool) → Grown old mid f
    → ((b : Name) → has_mark new b ≡ (has_mark mid b || (h b && has_place mid b)))
    → ((b : Name) → has_place new b ≡ has_place mid b)
    → ((b : Name) → k b ≡ (f b || h b)) → Grown old new k
grown_more old mid new f h k s marks places both = record {
  marks = λ b. marks b ∙ ap (λ x. x || (h b && has_place mid b)) (s.marks b)
      ∙ both_more (has_mark old b) (f b) (has_place old b) (h b) (has_place mid b) (s.places b)
      ∙ ap (λ x. has_mark old b || (x && has_place old b)) (sym (both b));
  places = λ b. places b ∙ s.places b;
}

pub grown_none : (m : Marked) (f : Name → Bool) → ((b : Name) → f b ≡ false) → Grown m m f
grown_none m f none = record {
  marks = λ b. or_none (has_mark m b) (has_place m b)
      ∙ ap (λ x. has_mark m b || (x && has_place m b)) (sym (none b));
  places = λ b. refl;
}

-- rows of no mark
false_below : (k i : ℕ) → get_or (replicate k false) i false ≡ false
false_below k i = elim (cases_lt i k) [
  | inl l ↦ get_or-replicate k i false false l
  | inr l ↦ get_or_past (replicate k false) i false (omega (arith, length-replicate k false))
]

false_row : (ms : List Mutator) (t i : ℕ)
    → get_or (get_or (map (λ (m : Mutator). replicate (length m.objects) false) ms) t []) i false
    ≡ false
false_row [] t i = refl
false_row (m ∷ ms) zero i = false_below (length m.objects) i
false_row (m ∷ ms) (suc t) i = false_row ms t i

pub unmarked : (ms : List Mutator) (m : Marked)
    → m.rows ≡ map (λ (x : Mutator). replicate (length x.objects) false) ms → m.shared ≡ false
    → (b : Name) → has_mark m b ≡ false
unmarked ms m rows shared b = elim (cases_eq b.serial 0) [
  | inl z ↦ ap (λ k. cond k (eqb b.thread (length m.rows) && m.shared)
      (get_or (get_or m.rows b.thread []) (b.serial - 1) false)) (eq-eqb b.serial 0 z)
      ∙ ap (λ k. eqb b.thread (length m.rows) && k) shared ∙ and_no (eqb b.thread (length m.rows))
  | inr n ↦ ap (λ k. cond k (eqb b.thread (length m.rows) && m.shared)
      (get_or (get_or m.rows b.thread []) (b.serial - 1) false)) (ne_eqb b.serial 0 n)
      ∙ ap (λ rs. get_or (get_or rs b.thread []) (b.serial - 1) false) rows
      ∙ false_row ms b.thread (b.serial - 1)
]
