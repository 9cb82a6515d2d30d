-- The answers of all threads by their logs are those of an order in which each thread has its own.
use Rattle.std.proofs.Common.{◌≡◌, ℕ, zero, suc, ◌+◌, ◌<◌, List, [], ◌∷◌, length, slice_index_or, map, refl, sym, ap, ◌∙◌, subst, arith}
use Rattle.never_heap.specs.declared.Entry.{Entry}
use Rattle.never_heap.specs.declared.Reply.{Reply}
use Rattle.never_heap.specs.Histories.{HistoryItem, parts}
use Rattle.array_tables.specs.operations.Linearizations.{Call, calls_of, replies_in}
use Rattle.never_heap.proofs.Lemmas.{logged}
use Rattle.array_scripts.specs.Answers.{each_from, answers_in, answers_from}

module _ {Op Done Answer T : Type 0} (answer : Call Done Answer → T)
    (order : List (Call Done Answer)) where
  -- thread by thread
  in_turn : (make : ℕ → List Op → List T) (t n : ℕ) (scripts : List (List Op))
      → length scripts ≡ n
      → ((u k : ℕ) → k ≡ t + u → u < n
      → map answer (calls_of k order) ≡ make k (slice_index_or scripts u []))
      → each_from make t scripts ≡ answers_from answer t n order
  in_turn make t zero [] size each = refl
  in_turn make t zero (x ∷ xs) size each = absurd cc
  in_turn make t (suc n) [] size each = absurd cc
  in_turn make t (suc n) (ops ∷ scripts) size each =
      let first : make t ops ≡ map answer (calls_of t order) =
      sym (each 0 t (omega arith) (omega arith)) in
      let rest : each_from make (t + 1) scripts ≡ answers_from answer (t + 1) n order =
      in_turn make (t + 1) n scripts (omega (arith, size))
      (λ u k is low. each (suc u) k (omega (arith, is)) (omega (arith, low))) in
      λ i. first i ∷ rest i

  -- what each thread's replies in a history tell is what its log tells
  pub in_order : (told : ℕ → List Op → List Reply → List T) (n : ℕ) (h : List HistoryItem)
      (scripts : List (List Op)) (logs : List (List Entry)) → length scripts ≡ n
      → parts n h ≡ logs
      → ((u : ℕ) → map answer (calls_of u order)
      ≡ told u (slice_index_or scripts u []) (replies_in u h))
      → answers_in told scripts logs ≡ answers_from answer 0 n order
  in_order told n h scripts logs size parts_are each =
      in_turn (λ t ops. told t ops (map (λ (e : Entry). e.reply) (slice_index_or logs t []))) 0 n
      scripts size (λ u k is low.
      subst (λ (k : ℕ). map answer (calls_of k order) ≡ told k (slice_index_or scripts u [])
      (map (λ (e : Entry). e.reply) (slice_index_or logs k []))) (omega (arith, is))
      (each u ∙ ap (λ (log : List Entry).
      told u (slice_index_or scripts u []) (map (λ (e : Entry). e.reply) log))
      (logged n h logs u parts_are low)))
