-- Each name occurs once among the names of a graph, so the blocks of what can be reached are no
-- more than those of any closed list of names.
use Rattle.std.proofs.Common.{◌≡◌, ◌≢◌, ℕ, zero, suc, ne_eqb, ◌+◌, ◌<◌, ◌≤◌, ◌==◌, ◌&&◌, ◌||◌, ◌⊎◌, inl, inr, if◌then◌else◌, cond, Bool, true, false, List, [], ◌∷◌, length, sym, refl, ap, ◌∙◌, subst, arith}
use Rattle.std.proofs.lemmas.Bool.{cases_eq, cases_Bool}
use Rattle.std.proofs.lemmas.List.Sums.{sum_by-append, sum_by-le-sum_by}
use Rattle.std.specs.List.{sum_by}
use Rattle.block_store.specs.declared.Name.{Name}
use Rattle.block_store.specs.declared.Width.{Width}
use Rattle.block_store.specs.Registers.{registers_end}
use Rattle.never_heap.specs.Graphs.{Graph, same_name, shared_name, count_of, object_of}
use Rattle.never_heap.specs.LiveBlocks.{live_of, live_blocks, object_blocks}
use Rattle.never_heap.specs.Reach.{is_among, IsClosed, names, names_below, thread_names, reachable}
use Rattle.never_heap.proofs.NameLists.{one_name}
use Rattle.never_heap.proofs.ReachableNames.{reachable_within}

module _ (w : Name → ℕ) (s : Name) where
  -- the weight of s, at s alone
  abbrev pub at : Name → ℕ
  at a = if same_name a s then w a else 0

  other : (a : Name) → same_name a s ≡ false → at a ≡ 0
  other a e = rw e

  weight : (a : Name) → at a ≤ w s
  weight a = elim (cases_Bool (same_name a s)) [
    | inl e ↦ subst (λ (n : ℕ). n ≤ w s) (sym (ap (λ (b : Bool). cond b (w a) 0) e))
        (subst (λ (x : Name). w x ≤ w s) (sym (one_name a s e)) (omega arith))
    | inr e ↦ subst (λ (n : ℕ). n ≤ w s) (sym (other a e)) (omega arith)
  ]

  apart : (t k : ℕ) → (t ≢ s.thread) ⊎ (k + 1 ≢ s.serial)
      → same_name (record { thread = t; serial = k + 1 }) s ≡ false
  apart t k (inl ne) = ap (λ (b : Bool). b && (k + 1 == s.serial)) (ne_eqb t s.thread ne)
  apart t k (inr ne) = elim (cases_Bool (t == s.thread)) [
    | inl e ↦ ap (λ (b : Bool). b && (k + 1 == s.serial)) e ∙ ne_eqb (k + 1) s.serial ne
    | inr e ↦ ap (λ (b : Bool). b && (k + 1 == s.serial)) e
  ]

  -- no name of another thread, and none of a larger serial, is s
  none_here : (t k : ℕ) → (t ≢ s.thread) ⊎ ((k < s.serial) ⊎ (s.serial ≡ 0))
      → sum_by at (thread_names t k) ≡ 0
  none_here t zero h = refl
  none_here t (suc k) h =
      let before : sum_by at (thread_names t k) ≡ 0 = none_here t k (less h) in
      let last : at (record { thread = t; serial = k + 1 }) ≡ 0 =
      other (record { thread = t; serial = k + 1 }) (apart t k (differs h)) in
      sum_by-append at (thread_names t k) (record { thread = t; serial = k + 1 } ∷ []) ∙ omega arith
    where
      less : (t ≢ s.thread) ⊎ ((suc k < s.serial) ⊎ (s.serial ≡ 0))
          → (t ≢ s.thread) ⊎ ((k < s.serial) ⊎ (s.serial ≡ 0))
      less (inl ne) = inl ne
      less (inr (inl low)) = inr (inl (omega arith))
      less (inr (inr e)) = inr (inr e)

      differs : (t ≢ s.thread) ⊎ ((suc k < s.serial) ⊎ (s.serial ≡ 0))
          → (t ≢ s.thread) ⊎ (k + 1 ≢ s.serial)
      differs (inl ne) = inl ne
      differs (inr (inl low)) = inr (λ e. omega arith)
      differs (inr (inr e)) = inr (λ f. omega arith)

  -- among the names of one thread s occurs once at most
  once_here : (t k : ℕ) → sum_by at (thread_names t k) ≤ w s
  once_here t zero = omega arith
  once_here t (suc k) =
      let sum : sum_by at (thread_names t (suc k))
      ≡ sum_by at (thread_names t k) + (0 + at (record { thread = t; serial = k + 1 })) =
      sum_by-append at (thread_names t k) (record { thread = t; serial = k + 1 } ∷ []) in
      elim (cases_eq (k + 1) s.serial) [
        | inl e ↦ (let before = none_here t k (inr (inl (omega arith))) in
            let last = weight (record { thread = t; serial = k + 1 }) in omega arith)
        | inr ne ↦ (let last = other (record { thread = t; serial = k + 1 })
            (apart t k (inr ne)) in let before = once_here t k in omega arith)
      ]

  -- among the names of the first t threads too, and not at all where its thread is none of them
  pub once_below : (g : Graph) (t : ℕ)
      → (sum_by at (names_below g t) ≤ w s)
      × (0 < s.serial → t ≤ s.thread → sum_by at (names_below g t) ≡ 0)
  once_below g zero = (
    (let one = weight (shared_name (length g.mutators)) in omega arith),
    λ some low. (let none = other (shared_name (length g.mutators)) (shared_not some) in
        omega arith),
  )
    where
      shared_not : 0 < s.serial → same_name (shared_name (length g.mutators)) s ≡ false
      shared_not some = elim (cases_Bool (length g.mutators == s.thread)) [
        | inl e ↦ ap (λ (b : Bool). b && (0 == s.serial)) e ∙ ne_eqb 0 s.serial (λ z. omega arith)
        | inr e ↦ ap (λ (b : Bool). b && (0 == s.serial)) e
      ]
  once_below g (suc t) =
      let before = once_below g t in
      let here = once_here t (count_of g t) in
      let sum : sum_by at (names_below g (suc t))
      ≡ sum_by at (names_below g t) + sum_by at (thread_names t (count_of g t)) =
      sum_by-append at (names_below g t) (thread_names t (count_of g t)) in (
        elim (cases_eq s.serial 0) [
          | inl e ↦ (let none = none_here t (count_of g t) (inr (inr e)) in let low = before.0 in
              omega arith)
          | inr ne ↦ elim (cases_eq t s.thread) [
            | inl is ↦ (let none = before.1 (omega arith) (omega arith) in omega arith)
            | inr isnt ↦ (let none = none_here t (count_of g t) (inl isnt) in
                let low = before.0 in omega arith)
          ]
        ],
        λ some low. (let none = none_here t (count_of g t) (inl (λ e. omega arith)) in
            let rest = before.1 some (omega arith) in omega arith),
      )

-- the weights of the names that are among some names
abbrev among : (Name → ℕ) → List Name → Name → ℕ
among w ss a = if is_among ss a then w a else 0

either_le : (b c : Bool) (n : ℕ) → cond (b || c) n 0 ≤ cond b n 0 + cond c n 0
either_le true c n = omega arith
either_le false c n = omega arith

one : (f : Name → ℕ) (x : Name) (xs : List Name) → sum_by f (x ∷ xs) ≡ sum_by f xs + f x
one f x xs = sum_by-append f (x ∷ []) xs ∙ omega arith

sums : (a a' a1 b b' b1 c c' c1 : ℕ) → a ≡ a' + a1 → b ≡ b' + b1 → c ≡ c' + c1 → a1 ≤ b1 + c1
    → a' ≤ b' + c' → a ≤ b + c
sums a a' a1 b b' b1 c c' c1 p q r here rest = omega arith

among_all : (w : Name → ℕ) (g : Graph) (ss : List Name)
    → sum_by (among w ss) (names g) ≤ sum_by w ss
among_all w g [] = none (names g)
  where
    none : (xs : List Name) → sum_by (among w []) xs ≤ 0
    none [] = omega arith
    none (x ∷ xs) = let rest = none xs in let a = one (among w []) x xs in omega arith
among_all w g (s ∷ ss) =
    let first : sum_by (at w s) (names g) ≤ w s = (once_below w s g (length g.mutators)).0 in
    let others = among_all w g ss in
    let split = both (names g) in
    let whole = one w s ss in
    omega arith
  where
    both : (xs : List Name) → sum_by (among w (s ∷ ss)) xs ≤ sum_by (at w s) xs + sum_by
        (among w ss) xs
    both [] = omega arith
    both (x ∷ xs) =
        let rest = both xs in
        let here : among w (s ∷ ss) x ≤ at w s x + among w ss x =
        either_le (same_name x s) (is_among ss x) (w x) in
        let a : sum_by (among w (s ∷ ss)) (x ∷ xs)
        ≡ sum_by (among w (s ∷ ss)) xs + among w (s ∷ ss) x = one (among w (s ∷ ss)) x xs in
        let b : sum_by (at w s) (x ∷ xs) ≡ sum_by (at w s) xs + at w s x = one (at w s) x xs in
        let c : sum_by (among w ss) (x ∷ xs) ≡ sum_by (among w ss) xs + among w ss x =
        one (among w ss) x xs in
        sums (sum_by (among w (s ∷ ss)) (x ∷ xs)) (sum_by (among w (s ∷ ss)) xs)
        (among w (s ∷ ss) x) (sum_by (at w s) (x ∷ xs)) (sum_by (at w s) xs) (at w s x)
        (sum_by (among w ss) (x ∷ xs)) (sum_by (among w ss) xs) (among w ss x) a b c here rest

imp_le : (b c : Bool) (n : ℕ) → (b ≡ true → c ≡ true) → cond b n 0 ≤ cond c n 0
imp_le true c n f = subst (λ (d : Bool). n ≤ cond d n 0) (sym (f refl)) (omega arith)
imp_le false c n f = omega arith

pub within : (w : Width) (g : Graph) (some : List Name) → IsClosed g (is_among some)
    → live_blocks w g ≤ registers_end w (length g.mutators) + sum_by
    (λ (a : Name). object_blocks w (object_of g a)) some
unfolding live_blocks
within w g some closed =
    let of : Name → ℕ = λ a. object_blocks w (object_of g a) in
    let low = sum_by-le-sum_by (live_of w g) (among of some) (names g)
    (λ a. imp_le (reachable g a) (is_among some a) (of a)
    (reachable_within g (is_among some) a closed)) in
    let all = among_all of g some in
    omega arith

-- what the live blocks are a sum of
pub live_sum : (w : Width) (g : Graph)
    → live_blocks w g ≡ registers_end w (length g.mutators) + sum_by (live_of w g) (names g)
unfolding live_blocks
live_sum w g = refl
