-- How the lines that were taken so far lead to the answer on all lines.
use Rattle.std.proofs.Common.{◌≡◌, ◌≢◌, ℕ, ◌+◌, inl, inr, List, [], ◌∷◌, ◌++◌, length, Some, None, sym, refl, ap, ◌∙◌, subst, length-append, append-nil, arith}
use Rattle.block_store.specs.declared.Config.{Config}
use Rattle.never_heap.specs.declared.Command.{Command}
use Rattle.never_heap.specs.declared.Entry.{Entry}
use Rattle.never_heap.specs.Histories.{HistoryItem, Started, Did}
use Rattle.trace_text.specs.Reading.{parted}
use Rattle.trace_text.proofs.LabelLaws.{parted_some}
use Rattle.rt_check.specs.declared.follower.Follower.{Follower}
use Rattle.rt_check.specs.declared.moves.Move.{Move}
use Rattle.rt_check.specs.Moves.{moves_in}
use Rattle.rt_check.specs.Standing.{Stands}
use Rattle.rt_check.specs.Taken.{IsTaken, IsEnd, IsLeft, AreTaken, FirstLeft, AreMoves}
use Rattle.rt_check.proofs.InputParts.{no_lines}

-- the commands of a history, and of one item more
pub moves_append : (h k : List HistoryItem) → moves_in (h ++ k) ≡ moves_in h ++ moves_in k
moves_append [] k = refl
moves_append (Started ∷ h) k = moves_append h k
moves_append (Did e ∷ h) k = ap (λ (ms : List Move). let m
    : Move = record { thread = e.thread; command = e.command } in m ∷ ms) (moves_append h k)

-- what is found from here on is what is found of all lines
pub record Leads (c : Config) (traces : List (List Command)) (lines : List (List ℕ))
    (past : List HistoryItem) (rest : List (List ℕ)) (read : ℕ) : Type 0 where
  pub long : length past ≡ read
  pub taken : (h : List HistoryItem) → AreTaken c traces past rest h
      → AreTaken c traces [] lines h
  pub left : (n : ℕ) → FirstLeft c traces past rest n → FirstLeft c traces [] lines (read + n)

-- so many lines were taken, these are their commands, and this is where the follower is
abbrev pub HasTaken : Config → List (List Command) → List (List ℕ) → List (List ℕ) → ℕ
    → Follower → List Move → Type 0
HasTaken c traces lines rest read f ms =
    (past : List HistoryItem) × Stands c past f × Leads c traces lines past rest read
    × (ms ≡ moves_in past)

pub leads_first : (c : Config) (traces : List (List Command)) (lines : List (List ℕ))
    → Leads c traces lines [] lines 0
leads_first c traces lines = record {
  long = refl;
  taken = λ h t. t;
  left = λ n l. subst (λ (k : ℕ). FirstLeft c traces [] lines k)
      (let e : n ≡ 0 + n = omega arith in e) l;
}

module _ (c : Config) (traces : List (List Command)) (lines : List (List ℕ))
    (past : List HistoryItem) (rest : List (List ℕ)) (read : ℕ)
    (l : Leads c traces lines past rest read) where
  -- no line is left, and none was the last
  pub none_last : parted rest ≡ None → FirstLeft c traces [] lines (read + 1)
  none_last none = l.left 1
      (subst (λ (ls : List (List ℕ)). FirstLeft c traces past ls 1) (sym (no_lines rest none)) refl)

  module _ (line : List ℕ) (after : List (List ℕ)) (first : parted rest ≡ Some (line, after)) where
    rest_is : rest ≡ line ∷ after
    rest_is = parted_some rest line after first

    pub more : (i : HistoryItem) → IsTaken c traces past line i
        → Leads c traces lines (past ++ i ∷ []) after (read + 1)
    more i taken = record {
      long = length-append past (i ∷ []) ∙ ap (λ (n : ℕ). n + 1) l.long;
      taken = λ h t. l.taken h (subst (λ (ls : List (List ℕ)). AreTaken c traces past ls h)
          (sym rest_is) (inr (i, taken, t)));
      left = λ n b. subst (λ (k : ℕ). FirstLeft c traces [] lines k)
          (let e : read + (n + 1) ≡ (read + 1) + n = omega arith in e)
          (l.left (n + 1) (subst (λ (ls : List (List ℕ)). FirstLeft c traces past ls (n + 1))
          (sym rest_is) (inr (inr (n, refl, (i, taken, b))))));
    }

    pub one_left : IsLeft c traces past line → FirstLeft c traces [] lines (read + 1)
    one_left left = l.left 1
        (subst (λ (ls : List (List ℕ)). FirstLeft c traces past ls 1) (sym rest_is)
        (inl (refl, left)))

    pub at_end : IsEnd traces past line → after ≡ [] → (ms : List Move) → ms ≡ moves_in past
        → AreMoves c traces lines ms
    at_end end none ms are = (
      past,
      l.taken past (subst (λ (ls : List (List ℕ)). AreTaken c traces past ls past)
          (sym rest_is) (inl (end, none, refl))),
      are,
    )

    pub behind_end : IsEnd traces past line → after ≢ [] → FirstLeft c traces [] lines (read + 2)
    behind_end end some = l.left 2
        (subst (λ (ls : List (List ℕ)). FirstLeft c traces past ls 2) (sym rest_is)
        (inr (inl (refl, end, some))))

    pub go_start : (f : Follower) (ms ms' : List Move) → ms ≡ moves_in past → ms' ≡ ms
        → IsTaken c traces past line Started → Stands c (past ++ Started ∷ []) f
        → HasTaken c traces lines after (read + 1) f ms'
    go_start f ms ms' are same taken stands = (
      past ++ Started ∷ [],
      stands,
      more Started taken,
      same ∙ are ∙ sym (moves_append past (Started ∷ []) ∙ append-nil (moves_in past)),
    )

    pub go_entry : (f : Follower) (ms ms' : List Move) (m : Move) → ms ≡ moves_in past
        → ms' ≡ ms ++ m ∷ []
        → (e : Entry) → IsTaken c traces past line (Did e) → Stands c (past ++ Did e ∷ []) f
        → m ≡ record { thread = e.thread; command = e.command }
        → HasTaken c traces lines after (read + 1) f ms'
    go_entry f ms ms' m are pushed e taken stands is = (
      past ++ Did e ∷ [],
      stands,
      more (Did e) taken,
      pushed ∙ (λ i. are i ++ is i ∷ []) ∙ sym (moves_append past (Did e ∷ [])),
    )
