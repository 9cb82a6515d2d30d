-- The answers that replies tell row by row are those that they tell operation by operation.
use Rattle.std.proofs.Common.{◌≡◌, ℕ, ◌+◌, ◌≤◌, List, [], ◌∷◌, length, map, refl, ap, ◌∙◌, arith}
use Rattle.std.specs.Prelude.{flat_map}
use Rattle.never_heap.specs.declared.Reply.{Reply}
use Rattle.array_tables.specs.operations.Linearizations.{Call, answers_told}
use Rattle.array_tables.specs.declared.handle_table.operation.Operation.{Operation}
use Rattle.array_tables.specs.declared.handle_table.operation.Operation.TheVariants as said
use Rattle.array_tables.specs.declared.handle_table.told.Outcome.{Outcome}
use Rattle.array_tables.specs.handle_table.Handles.{Deed, Answer, outcome_of, outcomes_told, numbered, last_after, rows_of, ends}

none_numbered : (t n : ℕ) (last : ℕ → ℕ) (ops : List Operation) (op : Operation)
    → [] ≡ numbered t n last (op ∷ ops) → ⊥
none_numbered t n last ops (said.Make h i x) e = cc
none_numbered t n last ops _ e = cc

parts : {A : Type 0} (x y : A) (xs ys : List A) → x ∷ xs ≡ y ∷ ys → (x ≡ y) × (xs ≡ ys)
parts x y xs ys e = (cc, cc)

abbrev outcome_in : Call Deed Answer → Outcome
outcome_in c = outcome_of c.operation c.answer

-- what holds of the deeds and the answers of calls
abbrev AreCalls : List (Call Deed Answer) → List Deed → List Answer → Type 0
AreCalls cs ops answers = (map (λ (d : Call Deed Answer). d.operation) cs ≡ ops)
    × (map (λ (d : Call Deed Answer). d.answer) cs ≡ answers)

-- one call in front
one_more : (c : Call Deed Answer) (cs : List (Call Deed Answer)) {op : Deed} {a : Answer}
    {ops : List Deed} {answers : List Answer} {outs : List Outcome}
    → AreCalls (c ∷ cs) (op ∷ ops) (a ∷ answers)
    → (AreCalls cs ops answers → map outcome_in cs ≡ outs)
    → map outcome_in (c ∷ cs) ≡ outcome_of op a ∷ outs
one_more c cs both rest =
    let es = parts _ _ _ _ both.0 in
    let fs = parts _ _ _ _ both.1 in
    (λ k. outcome_of (es.0 k) (fs.0 k) ∷ rest (es.1, fs.1) k)

module _ (t : ℕ) where
  -- of an operation that makes nothing
  one_quiet : (n : ℕ) (todo : List Operation) (rs : List Reply) (c : Call Deed Answer)
      (cs : List (Call Deed Answer)) {op : Deed} {a : Answer} {ops : List Deed}
      {answers : List Answer} → AreCalls (c ∷ cs) (op ∷ ops) (a ∷ answers)
      → (AreCalls cs ops answers → map outcome_in cs ≡ outcomes_told t n todo rs)
      → map outcome_in (c ∷ cs) ≡ outcome_of op a ∷ outcomes_told t (n + 0) todo rs
  one_quiet n todo rs c cs both rest =
      one_more c cs both (λ e. rest e ∙ ap (λ (k : ℕ). outcomes_told t k todo rs) (omega arith))

  pub by_chunks : (n : ℕ) (last : ℕ → ℕ) (ops : List Operation) (rs : List Reply)
      (cs : List (Call Deed Answer)) → AreCalls cs (numbered t n last ops)
      (answers_told ends [] (flat_map rows_of (numbered t n last ops)) rs)
      → length (flat_map rows_of (numbered t n last ops)) ≤ length rs
      → map outcome_in cs ≡ outcomes_told t n ops rs
  by_chunks n last [] rs [] both enough = refl
  by_chunks n last [] rs (c ∷ cs) both enough = let bad = both.0 in absurd cc
  by_chunks n last (op ∷ ops) rs [] both enough = absurd (none_numbered t n last ops op both.0)
  by_chunks n last (said.Take i ∷ ops) (a ∷ b ∷ c ∷ d ∷ rs) (call ∷ cs) both enough =
      one_quiet n ops rs call cs both (λ e. by_chunks n last ops rs cs e (omega arith))
  by_chunks n last (said.Evict i ∷ ops) (a ∷ b ∷ c ∷ d ∷ e ∷ rs) (call ∷ cs) both enough =
      one_quiet n ops rs call cs both (λ e. by_chunks n last ops rs cs e (omega arith))
  by_chunks n last (said.See h i ∷ ops) (a ∷ b ∷ rs) (call ∷ cs) both enough =
      one_quiet n ops rs call cs both (λ e. by_chunks n last ops rs cs e (omega arith))
  by_chunks n last (said.Drop h i ∷ ops) (a ∷ b ∷ rs) (call ∷ cs) both enough =
      one_quiet n ops rs call cs both (λ e. by_chunks n last ops rs cs e (omega arith))
  by_chunks n last (said.Make h i x ∷ ops) (a ∷ b ∷ c ∷ d ∷ e ∷ f ∷ g ∷ q ∷ r ∷ rs) (call ∷ cs)
      both enough = one_more call cs both
      (λ e. by_chunks (n + 1) (last_after last h (n + 1)) ops rs cs e (omega arith))
  by_chunks n last (op ∷ ops) rs (call ∷ cs) both enough = absurd (omega arith)
