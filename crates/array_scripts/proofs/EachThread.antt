-- What is made of each thread, one after the other.
use Rattle.std.proofs.Common.{◌≡◌, ℕ, zero, suc, ◌+◌, ◌<◌, ◌≤◌, List, [], ◌∷◌, ◌++◌, length, drop, get_or, map, append_assoc, append-nil, refl, sym, ap, ◌∙◌, arith}
use Rattle.std.proofs.lemmas.List.{length-map, at_drop_more, drop_all}
use Rattle.std.proofs.Math.ListN.{get_or-map}
use Rattle.never_heap.specs.declared.Command.{Command}
use Rattle.never_heap.specs.declared.Entry.{Entry}
use Rattle.array_scripts.specs.Answers.{each_from, traces_in}

module _ {X Y : Type 0} (make : ℕ → X → Y) where
  -- what was made so far, and what is made of the threads that are left, is all
  pub one_more : (xs : List X) (t : ℕ) (x : X) (y : Y) (so_far more all : List Y) → t < length xs
      → x ≡ get_or xs t x → y ≡ make t x → more ≡ so_far ++ y ∷ []
      → so_far ++ each_from make t (drop t xs) ≡ all
      → more ++ each_from make (t + 1) (drop (t + 1) xs) ≡ all
  one_more xs t x y so_far more all low at is pushed was =
      let rest : List Y = each_from make (t + 1) (drop (t + 1) xs) in
      ap (λ (l : List Y). l ++ rest) pushed ∙ append_assoc so_far (y ∷ []) rest
      ∙ ap (λ (z : Y). so_far ++ z ∷ rest) (is ∙ ap (make t) at)
      ∙ sym (at_drop_more (λ (l : List X). so_far ++ each_from make t l) xs t x low) ∙ was

  pub all_made : (xs : List X) (t : ℕ) (so_far all : List Y) → length xs ≤ t
      → so_far ++ each_from make t (drop t xs) ≡ all → so_far ≡ all
  all_made xs t so_far all past was =
      sym (append-nil so_far)
      ∙ ap (λ (l : List X). so_far ++ each_from make t l) (sym (drop_all t xs past)) ∙ was

  pub as_many : (t : ℕ) (xs : List X) → length (each_from make t xs) ≡ length xs
  as_many t [] = refl
  as_many t (x ∷ xs) = ap suc (as_many (t + 1) xs)

  -- what is made of one
  pub made_at : (t : ℕ) (xs : List X) (u k : ℕ) (d : X) (e : Y) → u < length xs → k ≡ t + u
      → get_or (each_from make t xs) u e ≡ make k (get_or xs u d)
  made_at t [] u k d e low is = absurd (omega (arith, low))
  made_at t (x ∷ xs) zero k d e low is = ap (λ (j : ℕ). make j x) (omega (arith, is))
  made_at t (x ∷ xs) (suc u) k d e low is =
      made_at (t + 1) xs u k d e (omega (arith, low)) (omega (arith, is))

-- ---- the logs of a run of scripts

module _ {Op : Type 0} (commands : ℕ → List Op → List Command) (scripts : List (List Op))
    (logs : List (List Entry))
    (same : map (λ log. map (λ (e : Entry). e.command) log) logs ≡ traces_in commands scripts) where
  pub logs_count : length logs ≡ length scripts
  logs_count =
      let long = ap length same in
      omega (
        arith,
        long,
        length-map logs (λ log. map (λ (e : Entry). e.command) log),
        as_many commands 0 scripts,
      )

  -- each has the entries of its thread's commands
  pub enough : (t : ℕ) (ops : List Op) (log : List Entry) → t < length logs
      → ops ≡ get_or scripts t ops → log ≡ get_or logs t []
      → length (commands t ops) ≤ length log
  enough t ops log there at is =
      let here : map (λ (e : Entry). e.command) log ≡ commands t ops =
      ap (map (λ (e : Entry). e.command)) is
      ∙ sym (get_or-map (λ log. map (λ (e : Entry). e.command) log) logs t [])
      ∙ ap (λ (l : List (List Command)). get_or l t []) same
      ∙ made_at commands 0 scripts t t ops [] (omega (arith, there, logs_count)) (omega arith)
      ∙ ap (commands t) (sym at) in
      let long = ap length here in
      omega (arith, long, length-map log (λ (e : Entry). e.command))
