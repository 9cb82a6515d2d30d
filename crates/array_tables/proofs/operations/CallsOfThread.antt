-- The calls of an order that are one thread's.
use Rattle.std.proofs.Common.{◌≡◌, ◌≢◌, ℕ, inl, inr, cond, Bool, List, [], ◌∷◌, map, eq-eqb, ne_eqb, refl, ap, subst}
use Rattle.std.specs.List.{AllByRecursion}
use Rattle.std.proofs.lemmas.Bool.{cases_eq}
use Rattle.array_tables.specs.operations.Linearizations.{Call, calls_of}

module _ {Op Answer : Type 0} where
  abbrev pub ops_of : ℕ → List (Call Op Answer) → List Op
  ops_of t ds = map (λ (d : Call Op Answer). d.operation) (calls_of t ds)

  module _ (d : Call Op Answer) (ds : List (Call Op Answer)) (t : ℕ) where
    pub ops_here : d.thread ≡ t → ops_of t (d ∷ ds) ≡ d.operation ∷ ops_of t ds
    ops_here e = ap (λ (b : Bool). map (λ (x : Call Op Answer). x.operation)
        (cond b (d ∷ calls_of t ds) (calls_of t ds))) (eq-eqb d.thread t e)

    pub ops_there : d.thread ≢ t → ops_of t (d ∷ ds) ≡ ops_of t ds
    ops_there ne = ap (λ (b : Bool). map (λ (x : Call Op Answer). x.operation)
        (cond b (d ∷ calls_of t ds) (calls_of t ds))) (ne_eqb d.thread t ne)

  -- what holds of each thread's operations holds of all
  pub by_threads : (P : ℕ → Op → Type 0) (ds : List (Call Op Answer))
      → ((t : ℕ) → AllByRecursion (P t) (ops_of t ds))
      → AllByRecursion (λ (d : Call Op Answer). P d.thread d.operation) ds
  by_threads P [] all = tt
  by_threads P (d ∷ ds) all = (
    (subst (AllByRecursion (P d.thread)) (ops_here d ds d.thread refl) (all d.thread)).0,
    by_threads P ds (λ t. elim (cases_eq d.thread t) [
      | inl e ↦ (subst (AllByRecursion (P t)) (ops_here d ds t e) (all t)).1
      | inr ne ↦ subst (AllByRecursion (P t)) (ops_there d ds t ne) (all t)
    ]),
  )
