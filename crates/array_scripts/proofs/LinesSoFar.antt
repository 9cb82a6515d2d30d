-- One line more of a script.
use Rattle.std.proofs.Common.{◌≡◌, ℕ, ◌+◌, Option, Some, None, List, [], ◌∷◌, ◌++◌, sym, refl, ap, ◌∙◌, append_assoc}
use Rattle.array_scripts.specs.scripts.Scripts.{Among, Said, Language, behind, front_op, told, told_next, or_bad, bad_line}
use Rattle.trace_text.specs.Reading.{parted, Gives}
use Rattle.trace_text.proofs.LabelLaws.{parted_some, parted_none}
use Rattle.array_scripts.specs.declared.header.Header.{Header}
use Rattle.array_scripts.specs.declared.line.Line.{Line}
use Rattle.array_scripts.specs.declared.line.Line.TheVariants as lines
use Rattle.array_scripts.specs.Kinds.{Kind, Tokens, line_at, language}
use Rattle.array_scripts.specs.Parts.{with_front, IsSoFar, IsTurned, IsTurn}
use Rattle.array_scripts.specs.Said.{said}

module _ {Op : Type 0} where
  with_none : (o : Option (List Op × List (List Op))) → o ≡ with_front [] o
  with_none None = refl
  with_none (Some r) = refl

  with_more : (ops : List Op) (op : Op) (o : Option (List Op × List (List Op)))
      → with_front ops (front_op op o) ≡ with_front (ops ++ op ∷ []) o
  with_more ops op None = refl
  with_more ops op (Some r) =
      ap (λ (l : List Op). Some (l, r.1)) (sym (append_assoc ops (op ∷ []) r.0))

  pub turn_of : (line : Line Op) → ((x : Op) → line ≡ lines.Told x → ⊥) → IsTurn line
  turn_of (lines.Told op) ne = absurd (ne op refl)
  turn_of (lines.Thread u) ne = tt
  turn_of lines.End ne = tt

  pub gives_some : (o : Option (Line Op)) (x : Line Op) (read : Option (Said Op)) → o ≡ Some x
      → Gives said o read → read ≡ Some (said x)
  gives_some None x read is g = absurd cc
  gives_some (Some y) x read is g = g ∙ ap (λ (z : Option (Line Op)). Some (said (or z))) is
    where
      or : Option (Line Op) → Line Op
      or None = y
      or (Some w) = w

module _ {Op : Type 0} (kind : Kind Op) where
  abbrev lang : Language Tokens Header (List Op) Op
  lang = language kind

  pub at_first : (h : Header) (t n : ℕ) (all : List Tokens) → IsSoFar kind h t n all [] n all
  at_first h t n all = record { bad = refl; tells = with_none (told lang h t [] all) }

  module _ (h : Header) (t n : ℕ) (all : List Tokens) (ops : List Op) (m : ℕ)
      (ls : List Tokens) (so_far : IsSoFar kind h t n all ops m ls) where
    -- a line that says this is next
    pub turns : (l : Tokens) (others : List Tokens) (line : Line Op) → parted ls ≡ Some (l, others)
        → line_at kind h t ops l ≡ Some (said line)
        → IsTurned kind h t n all ops line (m + 1) others
    turns l others line is says =
        let first : ls ≡ l ∷ others = parted_some ls l others is in
        record {
          bad = so_far.bad ∙ ap (bad_line lang (Among h t ops) m) first
              ∙ ap (λ o. or_bad (behind lang h t ops o) m
              (λ q. bad_line lang q (m + 1) others)) says;
          tells = so_far.tells
              ∙ ap (λ (z : List Tokens). with_front ops (told lang h t ops z)) first
              ∙ ap (λ o. with_front ops (told_next lang h t ops o others
              (λ u z. told lang h u z others))) says;
        }

    pub goes_on : (l : Tokens) (others : List Tokens) (op : Op) → parted ls ≡ Some (l, others)
        → line_at kind h t ops l ≡ Some (said (lines.Told op))
        → IsSoFar kind h t n all (ops ++ op ∷ []) (m + 1) others
    goes_on l others op is says =
        let turned = turns l others (lines.Told op) is says in
        record {
          bad = turned.bad;
          tells = turned.tells
              ∙ with_more ops op (told lang h t (ops ++ op ∷ []) others);
        }

    -- a line that says nothing, and no line at all
    pub stops : (l : Tokens) (others : List Tokens) → parted ls ≡ Some (l, others)
        → line_at kind h t ops l ≡ None → bad_line lang (Among h t []) n all ≡ Some m
    stops l others is says =
        so_far.bad
        ∙ ap (bad_line lang (Among h t ops) m) (parted_some ls l others is)
        ∙ ap (λ o. or_bad (behind lang h t ops o) m
        (λ q. bad_line lang q (m + 1) others)) says

    pub ends_early : parted ls ≡ None → bad_line lang (Among h t []) n all ≡ Some m
    ends_early is =
        so_far.bad ∙ ap (bad_line lang (Among h t ops) m) (parted_none ls is)

  pub turned_at : (h : Header) (t n : ℕ) (all : List Tokens) (ops : List Op) (m : ℕ)
      (ls : List Tokens) → IsSoFar kind h t n all ops m ls → (l : Tokens) (others : List Tokens)
      (o : Option (Line Op)) (line : Line Op)
      → parted ls ≡ Some (l, others) → o ≡ Some line → Gives said o (line_at kind h t ops l)
      → IsTurned kind h t n all ops line (m + 1) others
  turned_at h t n all ops m ls so_far l others o line is some g =
      turns h t n all ops m ls so_far l others line is
      (gives_some o line (line_at kind h t ops l) some g)
