-- One thread's operations more of a script.
use Rattle.std.proofs.Common.{◌≡◌, ℕ, ◌+◌, Option, Some, None, List, [], ◌∷◌, ◌++◌, length, sym, refl, ap, ◌∙◌, subst, append_assoc, append-nil, length-append, arith}
use Rattle.array_scripts.specs.scripts.Scripts.{Language, Place, Start, Among, Reads, place_after, begins, begin_thread, told, told_next, or_bad, bad_line}
use Rattle.array_scripts.proofs.scripts.ScriptOrBadLine.{told_is_script}
use Rattle.trace_text.specs.Reading.{parted}
use Rattle.trace_text.proofs.LabelLaws.{parted_some, parted_none}
use Rattle.array_scripts.specs.declared.header.Header.{Header}
use Rattle.array_scripts.specs.declared.line.Line.{Line}
use Rattle.array_scripts.specs.declared.line.Line.TheVariants as lines
use Rattle.array_scripts.specs.Kinds.{Kind, Tokens, language, IsHeader, Fits, IsScriptIn}
use Rattle.array_scripts.specs.Parts.{with_front, with_scripts, IsTurned, IsTurn, HasTold, AreRead}
use Rattle.array_scripts.specs.Said.{said}

module _ {Op : Type 0} (kind : Kind Op) where
  abbrev lang : Language Tokens Header (List Op) Op
  lang = language kind

  abbrev Found : Type 0
  Found = Option (List Op × List (List Op))

  -- what a thread's line begins has nothing in front
  front_begun : (before : List Op) (o : Found)
      → with_front before (begin_thread o) ≡ with_scripts before [] (begin_thread o)
  front_begun before None = refl
  front_begun before (Some r) = ap (λ (l : List Op). Some (l, r.0 ∷ r.1)) (append-nil before)

  front_turn : (h : Header) (t : ℕ) (k before : List Op) (line : Line Op) (others : List Tokens)
      → IsTurn line
      → with_front before (told_next lang h t k (Some (said line)) others
      (λ u z. told lang h u z others))
      ≡ with_scripts before [] (told_next lang h t [] (Some (said line)) others
      (λ u z. told lang h u z others))
  front_turn h t k before (lines.Told op) others turn = absurd turn
  front_turn h t k before (lines.Thread u) others turn = front_begun before _
  front_turn h t k before lines.End [] turn = ap (λ (l : List Op). Some (l, [])) (append-nil before)
  front_turn h t k before lines.End (l ∷ others) turn = refl

  place_turn : (h : Header) (t : ℕ) (k : List Op) (line : Line Op) → IsTurn line
      → place_after lang h t k (said line) ≡ place_after lang h t [] (said line)
  place_turn h t k (lines.Told op) turn = absurd turn
  place_turn h t k (lines.Thread u) turn = refl
  place_turn h t k lines.End turn = refl

  -- the first thread's line, or the end
  pub begun : (h : Header) (all : List Tokens) (before : List Op) (line : Line Op) (m : ℕ)
      (others : List Tokens) → IsTurned kind h 0 2 all before line m others → IsTurn line
      → AreRead kind h all before [] line m others
  begun h all before line m others turned turn = record {
    turn = turn;
    bad = turned.bad ∙ ap (λ (p : Place Header (List Op)). bad_line lang p m others)
        (place_turn h 0 before line turn);
    tells = turned.tells ∙ front_turn h 0 before before line others turn;
  }

  -- what is begun after scripts is one script more
  one_more : (before : List Op) (scripts : List (List Op)) (ops : List Op) (o : Found)
      → ((r : List Op × List (List Op)) → o ≡ Some r → r.0 ≡ [])
      → with_scripts before scripts (begin_thread (with_front ops o))
      ≡ with_scripts before (scripts ++ ops ∷ []) o
  one_more before scripts ops None empty = refl
  one_more before scripts ops (Some r) empty =
      ap (λ (l : List Op). Some (before, scripts ++ (l ∷ r.1)))
      (ap (λ (l : List Op). ops ++ l) (empty r refl) ∙ append-nil ops)
      ∙ ap (λ (l : List (List Op)). Some (before, l)) (sym (append_assoc scripts (ops ∷ []) r.1))

  none_begun : (o : Found) (r : List Op × List (List Op)) → begin_thread o ≡ Some r → r.0 ≡ []
  none_begun None r e = absurd cc
  none_begun (Some q) r e = sym (ap (λ (x : Found). first x) e)
    where
      first : Found → List Op
      first None = []
      first (Some x) = x.0

  none_turn : (h : Header) (t : ℕ) (k : List Op) (line : Line Op) (others : List Tokens)
      → IsTurn line → (r : List Op × List (List Op))
      → told_next lang h t k (Some (said line)) others (λ u z. told lang h u z others) ≡ Some r
      → r.0 ≡ []
  none_turn h t k (lines.Told op) others turn r e = absurd turn
  none_turn h t k (lines.Thread u) others turn r e = none_begun _ r e
  none_turn h t k lines.End [] turn r e = sym (ap (λ (x : Found). first x) e)
    where
      first : Found → List Op
      first None = []
      first (Some x) = x.0
  none_turn h t k lines.End (l ∷ others) turn r e = absurd cc

  next_turn : (h : Header) (t : ℕ) (k : List Op) (line : Line Op) (others : List Tokens)
      → IsTurn line → told_next lang h t k (Some (said line)) others (λ u z. told lang h u z others)
      ≡ told_next lang h t [] (Some (said line)) others (λ u z. told lang h u z others)
  next_turn h t k (lines.Told op) others turn = absurd turn
  next_turn h t k (lines.Thread u) others turn = refl
  next_turn h t k lines.End [] turn = refl
  next_turn h t k lines.End (l ∷ others) turn = refl

  module _ (h : Header) (all : List Tokens) (before : List Op) (scripts : List (List Op))
      (u m : ℕ) (rest : List Tokens)
      (read : AreRead kind h all before scripts (lines.Thread u) m rest) where
    -- the next thread's operations
    pub more_read : (ops : List Op) (line : Line Op) (next : ℕ) (others : List Tokens)
        → IsTurned kind h (length scripts + 1) m rest ops line next others → IsTurn line
        → AreRead kind h all before (scripts ++ ops ∷ []) line next others
    more_read ops line next others turned turn =
        let long : length scripts + 1 ≡ length (scripts ++ ops ∷ []) =
        sym (length-append scripts (ops ∷ []) ∙ omega arith) in
        record {
          turn = turn;
          bad = read.bad ∙ turned.bad
              ∙ ap (λ (p : Place Header (List Op)). bad_line lang p next others)
              (place_turn h (length scripts + 1) ops line turn)
              ∙ ap (λ (k : ℕ). bad_line lang (place_after lang h k [] (said line)) next others)
              long;
          tells = read.tells
              ∙ ap (λ (o : Found). with_scripts before scripts (begin_thread o)) turned.tells
              ∙ one_more before scripts ops
              (told_next lang h (length scripts + 1) ops (Some (said line)) others
              (λ v z. told lang h v z others))
              (none_turn h (length scripts + 1) ops line others turn)
              ∙ ap (with_scripts before (scripts ++ ops ∷ []))
              (next_turn h (length scripts + 1) ops line others turn)
              ∙ ap (λ (k : ℕ). with_scripts before (scripts ++ ops ∷ [])
              (told_next lang h k [] (Some (said line)) others (λ v z. told lang h v z others)))
              long;
        }

    -- a line of it that is bad is bad of all
    pub bad_more : (n : ℕ) → bad_line lang (Among h (length scripts + 1) []) m rest ≡ Some n
        → bad_line lang (Among h 0 []) 2 all ≡ Some n
    bad_more n e = read.bad ∙ e

  -- the same, by what a reader knows of the line, of how many threads there were, and of scripts
  pub read_on : (h : Header) (all : List Tokens) (before : List Op) (scripts more : List (List Op))
      (was : Line Op) (u m t : ℕ) (rest : List Tokens) (ops : List Op) (line : Line Op) (next : ℕ)
      (others : List Tokens)
      → AreRead kind h all before scripts was m rest → was ≡ lines.Thread u
      → t ≡ length scripts + 1 → IsTurned kind h t m rest ops line next others → IsTurn line
      → more ≡ scripts ++ ops ∷ [] → AreRead kind h all before more line next others
  read_on h all before scripts more was u m t rest ops line next others read is count turned turn
      pushed =
      let thread = subst (λ (l : Line Op). AreRead kind h all before scripts l m rest) is read in
      subst (λ (xs : List (List Op)). AreRead kind h all before xs line next others) (sym pushed)
      (more_read h all before scripts u m rest thread ops line next others
      (subst (λ (k : ℕ). IsTurned kind h k m rest ops line next others) count turned) turn)

  -- after the end
  pub done_read : (h : Header) (all : List Tokens) (before : List Op)
      (scripts : List (List Op)) (m : ℕ) (rest : List Tokens)
      → AreRead kind h all before scripts lines.End m rest → parted rest ≡ None
      → HasTold kind h all scripts
  done_read h all before scripts m rest read none = record {
    before = before;
    tells = read.tells
        ∙ ap (λ (ls : List Tokens). with_scripts before scripts
        (told_next lang h (length scripts) [] (Some (said lines.End)) ls (λ u z. told lang h u z ls))) (parted_none rest none)
        ∙ ap (λ (l : List (List Op)). Some (before, l)) (append-nil scripts);
  }

  pub bad_behind : (h : Header) (all : List Tokens) (before : List Op)
      (scripts : List (List Op)) (m : ℕ) (rest : List Tokens) (l : Tokens) (others : List Tokens)
      → AreRead kind h all before scripts lines.End m rest → parted rest ≡ Some (l, others)
      → bad_line lang (Among h 0 []) 2 all ≡ Some m
  bad_behind h all before scripts m rest l others read some =
      read.bad ∙ ap (λ (ls : List Tokens). bad_line lang Rattle.array_scripts.specs.scripts.Scripts.Done m ls)
      (parted_some rest l others some)

  -- ---- a header and what is after it

  pub script_is : Reads lang (IsHeader kind) (Fits kind) → (all : List Tokens) (l : Tokens)
      (others : List Tokens) (h : Header) (scripts : List (List Op)) → parted all ≡ Some (l, others) → lang.header_at l ≡ Some h
      → HasTold kind h others scripts → IsScriptIn kind all h scripts
  script_is reads all l others h scripts is head told_so =
      subst (λ (ls : List Tokens). IsScriptIn kind ls h scripts) (sym (parted_some all l others is))
      (told_is_script lang (IsHeader kind) (Fits kind) reads h l others told_so.before scripts head
      told_so.tells)

  pub bad_header : (all : List Tokens) (l : Tokens) (others : List Tokens)
      → parted all ≡ Some (l, others) → lang.header_at l ≡ None
      → bad_line lang Start 1 all ≡ Some 1
  bad_header all l others is none =
      ap (bad_line lang Start 1) (parted_some all l others is)
      ∙ ap (λ o. or_bad (begins lang o) 1 (λ q. bad_line lang q (1 + 1) others)) none

  pub no_header : (all : List Tokens) → parted all ≡ None → bad_line lang Start 1 all ≡ Some 1
  no_header all is = ap (bad_line lang Start 1) (parted_none all is)

  pub bad_later : (all : List Tokens) (l : Tokens) (others : List Tokens) (h : Header) (n : ℕ)
      → parted all ≡ Some (l, others) → lang.header_at l ≡ Some h
      → bad_line lang (Among h 0 []) 2 others ≡ Some n
      → bad_line lang Start 1 all ≡ Some n
  bad_later all l others h n is head bad =
      ap (bad_line lang Start 1) (parted_some all l others is)
      ∙ ap (λ o. or_bad (begins lang o) 1 (λ q. bad_line lang q (1 + 1) others)) head
      ∙ bad
