-- What the definitions on cycles say, when one item comes at the end of a history.
use Rattle.std.proofs.Common.{ℕ, ◌+◌, ◌-◌, ◌≡◌, ◌<◌, ◌≤◌, cond, List, [], ◌∷◌, ◌++◌, ap, sym, ◌∙◌, refl, subst, arith, inl, inr, eq-eqb, ne_eqb, add-zero, append_assoc}
use Rattle.std.proofs.lemmas.Bool.{cases_eq}
use Rattle.std.proofs.lemmas.List.{append-nil}
use Rattle.block_store.specs.declared.Config.{Config}
use Rattle.block_store.specs.declared.Width.{Width}
use Rattle.never_heap.specs.declared.Entry.{Entry}
use Rattle.never_heap.specs.Histories.{HistoryItem, Started, Did, replay, starts_in, after, replay_from}
use Rattle.never_heap.specs.Cycles.{before_start, after_start, graph_at}
use Rattle.never_heap.specs.GivenBlocks.{given}
use Rattle.never_heap.specs.Licensed.{IsLicensedItem, LicensedFrom, Licensed}
use Rattle.never_heap.specs.RightWork.{IsRightWork, RightWork}
use Rattle.never_heap.specs.Taken.{taken_by, taken_in, blocks_if_new}
use Rattle.never_heap.specs.Graphs.{Graph}
use Rattle.never_heap.specs.declared.Reply.{Reply}
use Rattle.never_heap.proofs.HistoryGrowth.{taken_append, starts_append}

-- right work
pub right_work_append : (w : Width) (rate : ℕ) (h k : List HistoryItem)
    → RightWork w rate h → RightWork w rate k → RightWork w rate (h ++ k)
right_work_append w rate [] k r v = v
right_work_append w rate (i ∷ h) k r v = (r.0, right_work_append w rate h k r.1 v)

pub right_work_more : (w : Width) (rate : ℕ) (h : List HistoryItem) (i : HistoryItem)
    → RightWork w rate h → IsRightWork w rate i → RightWork w rate (h ++ i ∷ [])
right_work_more w rate h i r v = right_work_append w rate h (i ∷ []) r (v, tt)

-- licensed
licensed_from : (c : Config) (past h : List HistoryItem) (i : HistoryItem) → LicensedFrom c past h
    → IsLicensedItem c (past ++ h) i → LicensedFrom c past (h ++ i ∷ [])
licensed_from c past [] i l v = (subst (λ k. IsLicensedItem c k i) (append-nil past) v, tt)
licensed_from c past (x ∷ h) i l v = (
  l.0,
  licensed_from c (past ++ x ∷ []) h i l.1
      (subst (λ k. IsLicensedItem c k i) (sym (append_assoc past (x ∷ []) h)) v),
)

pub licensed_more : (c : Config) (h : List HistoryItem) (i : HistoryItem) → Licensed c h
    → IsLicensedItem c h i → Licensed c (h ++ i ∷ [])
licensed_more c h i l v = licensed_from c [] h i l v

-- what comes after the start of a cycle leaves the items before it
started : (c : ℕ) (h : List HistoryItem) → c ≡ 1 → before_start c (Started ∷ h) ≡ []
started c h e = ap (λ b. cond b [] (Started ∷ before_start (c - 1) h)) (eq-eqb c 1 e)

not_yet : (c : ℕ) (h : List HistoryItem) → (c ≡ 1 → ⊥)
    → before_start c (Started ∷ h) ≡ Started ∷ before_start (c - 1) h
not_yet c h n = ap (λ b. cond b [] (Started ∷ before_start (c - 1) h)) (ne_eqb c 1 n)

pub before_more : (c : ℕ) (h k : List HistoryItem) → 1 ≤ c → c ≤ starts_in h
    → before_start c (h ++ k) ≡ before_start c h
before_more c [] k l m = absurd (omega arith)
before_more c (Started ∷ h) k l m = elim (cases_eq c 1) [
  | inl e ↦ started c (h ++ k) e ∙ sym (started c h e)
  | inr n ↦ not_yet c (h ++ k) n
      ∙ ap (λ t. Started ∷ t) (before_more (c - 1) h k (omega arith) (omega arith))
      ∙ sym (not_yet c h n)
]
before_more c (Did e ∷ h) k l m = ap (λ t. Did e ∷ t) (before_more c h k l m)

-- the next start comes after all of the history
pub before_next : (h k : List HistoryItem) (c : ℕ) → c ≡ starts_in h + 1
    → before_start c (h ++ Started ∷ k) ≡ h
before_next [] k c e = started c k e
before_next (Started ∷ h) k c e =
    not_yet c (h ++ Started ∷ k) (λ one. absurd (omega arith))
    ∙ ap (λ t. Started ∷ t) (before_next h k (c - 1) (omega arith))
before_next (Did x ∷ h) k c e = ap (λ t. Did x ∷ t) (before_next h k c e)

-- the graph at the start of a cycle stays, and that of the next cycle is what the history leaves
pub graph_at_more : (config : Config) (h k : List HistoryItem) (c : ℕ) → 1 ≤ c → c ≤ starts_in h
    → graph_at config (h ++ k) c ≡ graph_at config h c
graph_at_more config h k c l m = ap (λ t. replay config t) (before_more c h k l m)

pub graph_at_next : (config : Config) (h k : List HistoryItem)
    → graph_at config (h ++ Started ∷ k) (starts_in h + 1) ≡ replay config h
graph_at_next config h k = ap (λ t. replay config t) (before_next h k (starts_in h + 1) refl)

-- the items after a start go on
after_this : (c : ℕ) (h : List HistoryItem) → c ≡ 1 → after_start c (Started ∷ h) ≡ h
after_this c h e = ap (λ b. cond b h (after_start (c - 1) h)) (eq-eqb c 1 e)

after_later : (c : ℕ) (h : List HistoryItem) → (c ≡ 1 → ⊥)
    → after_start c (Started ∷ h) ≡ after_start (c - 1) h
after_later c h n = ap (λ b. cond b h (after_start (c - 1) h)) (ne_eqb c 1 n)

pub after_more : (c : ℕ) (h k : List HistoryItem) → 1 ≤ c → c ≤ starts_in h
    → after_start c (h ++ k) ≡ after_start c h ++ k
after_more c [] k l m = absurd (omega arith)
after_more c (Started ∷ h) k l m = elim (cases_eq c 1) [
  | inl e ↦ after_this c (h ++ k) e ∙ ap (λ t. t ++ k) (sym (after_this c h e))
  | inr n ↦ after_later c (h ++ k) n ∙ after_more (c - 1) h k (omega arith) (omega arith)
      ∙ ap (λ t. t ++ k) (sym (after_later c h n))
]
after_more c (Did e ∷ h) k l m = after_more c h k l m

starts_after : (c : ℕ) (h : List HistoryItem) → 1 ≤ c → c ≤ starts_in h
    → starts_in (after_start c h) + c ≡ starts_in h
starts_after c [] l m = absurd (omega arith)
starts_after c (Started ∷ h) l m = elim (cases_eq c 1) [
  | inl e ↦ omega (arith, ap starts_in (after_this c h e))
  | inr n ↦ omega (
    arith,
    ap starts_in (after_later c h n),
    starts_after (c - 1) h (omega arith) (omega arith),
  )
]
starts_after c (Did e ∷ h) l m = starts_after c h l m

-- all items, where there is no start
before_none : (h : List HistoryItem) → starts_in h ≡ 0 → before_start 1 h ≡ h
before_none [] e = refl
before_none (Started ∷ h) e = absurd (omega arith)
before_none (Did x ∷ h) e = ap (λ t. Did x ∷ t) (before_none h e)

before_stop : (h k : List HistoryItem) → starts_in h ≡ 0 → before_start 1 (h ++ Started ∷ k) ≡ h
before_stop h k e = before_next h k 1 (omega arith)

-- what was given in a past cycle stays
pub given_past : (w : Width) (h k : List HistoryItem) (c : ℕ) → 1 ≤ c → c < starts_in h
    → given w (h ++ k) c ≡ given w h c
given_past w h k c l m =
    ap (λ t. taken_in w (before_start 1 t)) (after_more c h k l (omega arith))
    ∙ ap (taken_in w) (before_more 1 (after_start c h) k (omega arith)
    (omega (arith, starts_after c h l (omega arith))))

-- in the present cycle an entry gives the blocks that it took
pub given_more : (w : Width) (h : List HistoryItem) (e : Entry) → 1 ≤ starts_in h
    → given w (h ++ Did e ∷ []) (starts_in h) ≡ given w h (starts_in h) + taken_by w e
given_more w h e l =
    let c : ℕ = starts_in h in
    let rest : List HistoryItem = after_start c h in
    let none : starts_in rest ≡ 0 = omega (arith, starts_after c h l (omega arith)) in
    let last : starts_in (rest ++ Did e ∷ []) ≡ 0 =
    omega (arith, starts_append rest (Did e ∷ [])) in
    ap (λ t. taken_in w (before_start 1 t)) (after_more c h (Did e ∷ []) l (omega arith))
    ∙ ap (taken_in w) (before_none (rest ++ Did e ∷ []) last)
    ∙ taken_append w rest (Did e ∷ []) ∙ ap (λ n. taken_in w rest + n) (add-zero (taken_by w e))
    ∙ sym (ap (λ t. taken_in w t + taken_by w e) (before_none rest none))

-- a start leaves what was given in the cycle that it ends
pub given_ended : (w : Width) (h : List HistoryItem) → 1 ≤ starts_in h
    → given w (h ++ Started ∷ []) (starts_in h) ≡ given w h (starts_in h)
given_ended w h l =
    let c : ℕ = starts_in h in
    let rest : List HistoryItem = after_start c h in
    let none : starts_in rest ≡ 0 = omega (arith, starts_after c h l (omega arith)) in
    ap (λ t. taken_in w (before_start 1 t)) (after_more c h (Started ∷ []) l (omega arith))
    ∙ ap (taken_in w) (before_stop rest [] none ∙ sym (before_none rest none))

after_next : (h : List HistoryItem) (c : ℕ) → c ≡ starts_in h + 1
    → after_start c (h ++ Started ∷ []) ≡ []
after_next [] c e = after_this c [] e
after_next (Started ∷ h) c e =
    after_later c (h ++ Started ∷ []) (λ one. absurd (omega arith))
    ∙ after_next h (c - 1) (omega arith)
after_next (Did x ∷ h) c e = after_next h c e

-- and in the cycle that it starts nothing was given
pub given_none : (w : Width) (h : List HistoryItem)
    → given w (h ++ Started ∷ []) (starts_in h + 1) ≡ 0
given_none w h = ap (λ t. taken_in w (before_start 1 t)) (after_next h (starts_in h + 1) refl)

-- a history splits at the start of a cycle
pub replay_parts : (g : Graph) (h : List HistoryItem) (z : ℕ) → 1 ≤ z → z ≤ starts_in h
    → replay_from g h ≡ replay_from (replay_from g (before_start z h)) (after_start z h)
replay_parts g [] z l m = absurd (omega arith)
replay_parts g (Started ∷ h) z l m = elim (cases_eq z 1) [
  | inl e ↦ rw (eq-eqb z 1 e) refl
  | inr ne ↦ rw (ne_eqb z 1 ne) (replay_parts g h (z - 1) (omega arith) (omega arith))
]
replay_parts g (Did e ∷ h) z l m = replay_parts (after g (Did e)) h z l m

-- a reply takes nothing where its command has no blocks
pub taken_none : (r : Reply) (k : ℕ) → k ≡ 0 → blocks_if_new r k ≡ 0
taken_none (Rattle.never_heap.specs.declared.Reply.TheVariants.New a) k e = e
taken_none _ k e = refl

-- no cycle has the number 0
pub after_nought : (h : List HistoryItem) → after_start 0 h ≡ []
after_nought [] = refl
after_nought (Started ∷ h) = after_nought h
after_nought (Did e ∷ h) = after_nought h

pub given_nought : (w : Width) (h : List HistoryItem) → given w h 0 ≡ 0
given_nought w h = ap (λ k. taken_in w (before_start 1 k)) (after_nought h)
