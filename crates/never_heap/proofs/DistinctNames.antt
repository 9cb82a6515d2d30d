-- Each name occurs once among the names of a graph, so one more name adds its weight to a sum.
use Rattle.std.proofs.Common.{◌≡◌, ℕ, ◌+◌, ◌≤◌, ◌||◌, inl, inr, cond, Bool, true, false, List, [], ◌∷◌, length, sym, refl, ap, ◌∙◌, arith}
use Rattle.std.proofs.lemmas.Bool.{cases_Bool, or_cases, both_ways}
use Rattle.std.proofs.lemmas.List.Sums.{sum_by-cons}
use Rattle.std.specs.List.{sum_by, list_any}
use Rattle.block_store.specs.declared.Name.{Name}
use Rattle.never_heap.specs.Graphs.{Graph, same_name, has_name}
use Rattle.never_heap.specs.Reach.{names}
use Rattle.never_heap.proofs.LiveBlocksBound.{at, once_below}
use Rattle.never_heap.proofs.NameLists.{one_name, same_itself, any_of_names}

pub same_turned : (a b : Name) → same_name a b ≡ same_name b a
same_turned a b = elim (cases_Bool (same_name a b)) [
  | inl e ↦ e ∙ sym (ap (λ (x : Name). same_name x a) (sym (one_name a b e)) ∙ same_itself a)
  | inr e ↦ e ∙ elim (cases_Bool (same_name b a)) [
    | inl f ↦ absurd (both_ways (same_name a b) e
        (ap (same_name a) (one_name b a f) ∙ same_itself a))
    | inr f ↦ sym f
  ]
]

module _ (w : Name → ℕ) (s : Name) where
  -- a name of some list has its weight there
  there : (xs : List Name) → list_any (same_name s) xs ≡ true → w s ≤ sum_by (at w s) xs
  there [] h = absurd (let e : false ≡ true = h in cc)
  there (x ∷ xs) h =
      let sum : sum_by (at w s) (x ∷ xs) ≡ at w s x + sum_by (at w s) xs =
      sum_by-cons (at w s) x xs in
      elim (cases_Bool (same_name x s)) [
        | inl e ↦ (let here : at w s x ≡ w s = ap (λ (b : Bool). cond b (w x) 0) e
            ∙ ap w (one_name x s e) in omega arith)
        | inr e ↦ elim (or_cases (same_name s x) (list_any (same_name s) xs) h) [
          | inl y ↦ absurd (both_ways (same_name x s) e (same_turned x s ∙ y))
          | inr later ↦ (let rest = there xs later in omega arith)
        ]
      ]

  weight_once : (g : Graph) → has_name g s ≡ true → sum_by (at w s) (names g) ≡ w s
  weight_once g has =
      let most = (once_below w s g (length g.mutators)).0 in
      let least = there (names g) (any_of_names g (same_name s) s has (same_itself s)) in
      omega arith

  module _ (p q : Name → Bool) (new : p s ≡ false)
      (adds : (a : Name) → q a ≡ (p a || same_name a s)) where
    split : (b c : Bool) (n : ℕ) → b ≡ false → cond (b || c) n 0 ≡ cond b n 0 + cond c n 0
    split b c n e = rw e (omega arith)

    keep : (b c : Bool) (n : ℕ) → c ≡ false → cond (b || c) n 0 ≡ cond b n 0 + cond c n 0
    keep true c n e = rw e (omega arith)
    keep false c n e = rw e (omega arith)

    at_one : (a : Name) → cond (q a) (w a) 0 ≡ cond (p a) (w a) 0 + at w s a
    at_one a = ap (λ (b : Bool). cond b (w a) 0) (adds a) ∙ elim (cases_Bool (same_name a s)) [
      | inl e ↦ split (p a) (same_name a s) (w a) (ap p (one_name a s e) ∙ new)
      | inr e ↦ keep (p a) (same_name a s) (w a) e
    ]

    sums : (xs : List Name) → sum_by (λ a. cond (q a) (w a) 0) xs
        ≡ sum_by (λ a. cond (p a) (w a) 0) xs + sum_by (at w s) xs
    sums [] = refl
    sums (x ∷ xs) =
        let f : Name → ℕ = λ a. cond (q a) (w a) 0 in
        let h : Name → ℕ = λ a. cond (p a) (w a) 0 in
        let all : sum_by f (x ∷ xs) ≡ f x + sum_by f xs = sum_by-cons f x xs in
        let old : sum_by h (x ∷ xs) ≡ h x + sum_by h xs = sum_by-cons h x xs in
        let one : sum_by (at w s) (x ∷ xs) ≡ at w s x + sum_by (at w s) xs =
        sum_by-cons (at w s) x xs in
        let rest = sums xs in
        let here = at_one x in
        omega arith

    pub one_more_weight : (g : Graph) → has_name g s ≡ true
        → sum_by (λ a. cond (q a) (w a) 0) (names g)
        ≡ sum_by (λ a. cond (p a) (w a) 0) (names g) + w s
    one_more_weight g has = let all = sums (names g) in let one = weight_once g has in omega arith
