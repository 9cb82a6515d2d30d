-- How the lines so far lead to the verdict on all lines.
use Rattle.std.proofs.Common.{◌≡◌, ℕ, ◌+◌, inr, List, [], ◌∷◌, ◌++◌, length, Some, sym, refl, ap, ◌∙◌, subst, length-append, arith}
use Rattle.block_store.specs.declared.Config.{Config}
use Rattle.never_heap.specs.declared.Command.{Command}
use Rattle.never_heap.specs.Histories.{HistoryItem}
use Rattle.trace_text.specs.Reading.{parted}
use Rattle.trace_text.proofs.LabelLaws.{parted_some}
use Rattle.rt_check.specs.declared.follower.Follower.{Follower}
use Rattle.rt_check.specs.Good.{IsGood, AreGood, FirstBad}
use Rattle.rt_check.specs.Standing.{Stands}

-- what is found from here on is what is found of all lines
pub record Leads (c : Config) (rate : ℕ) (traces : List (List Command)) (lines : List (List ℕ))
    (past : List HistoryItem) (rest : List (List ℕ)) (read : ℕ) : Type 0 where
  pub long : length past ≡ read
  pub good : AreGood c rate traces past rest → AreGood c rate traces [] lines
  pub bad : (n : ℕ) → FirstBad c rate traces past rest n
      → FirstBad c rate traces [] lines (read + n)

-- so many lines were good, and this is where the follower is
abbrev pub HasLed : Config → ℕ → List (List Command) → List (List ℕ) → List (List ℕ) → ℕ
    → Follower → Type 0
HasLed c rate traces lines rest read f =
    (past : List HistoryItem) × Stands c past f × Leads c rate traces lines past rest read

module _ (c : Config) (rate : ℕ) (traces : List (List Command)) (lines : List (List ℕ)) where
  module _ (past : List HistoryItem) (rest : List (List ℕ)) (read : ℕ)
      (l : Leads c rate traces lines past rest read) where
    module _ (line : List ℕ) (after : List (List ℕ))
        (first : parted rest ≡ Some (line, after)) where
      rest_is : rest ≡ line ∷ after
      rest_is = parted_some rest line after first

      pub lead_more : (i : HistoryItem) → IsGood c rate traces past line i
          → Leads c rate traces lines (past ++ i ∷ []) after (read + 1)
      lead_more i good = record {
        long = length-append past (i ∷ []) ∙ ap (λ (n : ℕ). n + 1) l.long;
        good = λ g. l.good (subst (AreGood c rate traces past) (sym rest_is) (inr (i, good, g)));
        bad = λ n b. subst (λ (k : ℕ). FirstBad c rate traces [] lines k)
            (let e : read + (n + 1) ≡ (read + 1) + n = omega arith in e)
            (l.bad (n + 1) (subst (λ (ls : List (List ℕ)). FirstBad c rate traces past ls (n + 1))
            (sym rest_is) (inr (inr (n, refl, (i, good, b))))));
      }
