-- What a step does to a graph and what it answers, by cases, with what the command's signature says
-- of each.
use Rattle.std.proofs.Common.{ℕ, Bool, true, false, Some, None, ◌≡◌, ◌<◌, ◌⊎◌, cond, ltb, length, sym, refl, subst, inl, inr}
use Rattle.std.proofs.lemmas.Bool.{cases_Bool, ltb-true}
use Rattle.block_store.specs.declared.Name.{Name}
use Rattle.block_store.specs.declared.Value.{Value}
use Rattle.block_store.specs.declared.Value.TheVariants.{Nil, Int, Ref}
use Rattle.never_heap.specs.declared.Command.{Command}
use Rattle.never_heap.specs.declared.Command.TheVariants as commands
use Rattle.never_heap.specs.declared.Reply.{Reply}
use Rattle.never_heap.specs.declared.Reply.TheVariants as replies
use Rattle.never_heap.specs.Graphs.{Graph, ObjectKind, Record, Array, nil_object, object_of, register_of, field_of, with_register, with_field}
use Rattle.never_heap.specs.Readback.{stored_by}
use Rattle.never_heap.specs.Signatures.{operands, destination_in}
use Rattle.never_heap.specs.Steps.{step, made, swapped, at_field, at_object, same_value, makes_object, object_made, stored_at}

-- what a command may store in a register: nil or a number, what a register of the thread holds,
-- or a field of an object in one
pub data Stored (g : Graph) (t : ℕ) : Value → Type 0 where
  nil : Stored g t Nil
  number : (n : ℕ) → Stored g t (Int n)
  register : (s : ℕ) → Stored g t (register_of g t s)
  field : (s i : ℕ) (a : Name) → register_of g t s ≡ Ref a → i < length (object_of g a).fields
      → Stored g t (field_of (object_of g a) i)

-- an answer that names no object, no value and no cycle
abbrev pub is_plain : Reply → Bool
is_plain (replies.New name) = false
is_plain (replies.Full c) = false
is_plain replies.Stored = false
is_plain (replies.Val v) = false
is_plain _ = true

-- what is answered where the graph stays: such an answer, or what a register holds
pub data Told (g : Graph) (t : ℕ) : Reply → Type 0 where
  plain : (r : Reply) → is_plain r ≡ true → Told g t r
  held : (s : ℕ) → Told g t (replies.Val (register_of g t s))

-- What a step makes of a graph, and what it answers: the graph stays, or there is a store in a
-- register, in a field, in both, or a new object in a register.
pub data Outcome (g : Graph) (t : ℕ) (k : Command) : Graph × Reply → Type 0 where
  unchanged : (r : Reply) → Told g t r → makes_object k ≡ false → stored_by k r ≡ None
      → Outcome g t k (g, r)
  in_register : (d : ℕ) (v : Value) (r : Reply) → Stored g t v
      → (r ≡ replies.Stored) ⊎ (r ≡ replies.Val v) → destination_in (operands k) ≡ Some d
      → makes_object k ≡ false → stored_by k r ≡ None → Outcome g t k (with_register g t d v, r)
  in_field : (s i v : ℕ) (a : Name) (r : Reply) → register_of g t s ≡ Ref a
      → i < length (object_of g a).fields → (r ≡ replies.Stored) ⊎ (r ≡ replies.Yes)
      → stored_at k ≡ Some (s, i) → makes_object k ≡ false → stored_by k r ≡ Some (s, (i, v))
      → Outcome g t k (with_field g a i (register_of g t v), r)
  in_both : (s i v : ℕ) (a : Name) → register_of g t s ≡ Ref a
      → i < length (object_of g a).fields → destination_in (operands k) ≡ Some v
      → stored_at k ≡ Some (s, i) → makes_object k ≡ false
      → stored_by k (replies.Val (field_of (object_of g a) i)) ≡ Some (s, (i, v))
      → Outcome g t k (swapped g t a i v, replies.Val (field_of (object_of g a) i))
  new_object : (d : ℕ) (kind : ObjectKind) (n : ℕ) → object_made k ≡ Some (kind, n)
      → destination_in (operands k) ≡ Some d → stored_at k ≡ None
      → ((name : Name) → stored_by k (replies.New name) ≡ None)
      → Outcome g t k (made g t d (nil_object kind n))

-- a command that makes no object, and has stored nothing where it is refused
record Looks (k : Command) : Type 0 where
  makes : makes_object k ≡ false
  null : stored_by k replies.Null ≡ None
  kind : stored_by k replies.Kind ≡ None
  range : stored_by k replies.Range ≡ None

module _ (g : Graph) (t : ℕ) (k : Command) (is : Looks k) where
  at_field_outcome : (i : ℕ) (v : Value) (act : Name → Graph × Reply)
      → ((a : Name) → v ≡ Ref a → i < length (object_of g a).fields → Outcome g t k (act a))
      → Outcome g t k (at_field g v i act)
  at_field_outcome i Nil act h = unchanged replies.Null (plain _ refl) is.makes is.null
  at_field_outcome i (Int n) act h = unchanged replies.Kind (plain _ refl) is.makes is.kind
  at_field_outcome i (Ref a) act h =
      elim (cases_Bool (ltb i (length (object_of g a).fields))) [
        | inl there ↦ subst (λ b. Outcome g t k (cond b (act a) (g, replies.Range))) (sym there)
            (h a refl (ltb-true i _ there))
        | inr past ↦ subst (λ b. Outcome g t k (cond b (act a) (g, replies.Range))) (sym past)
            (unchanged replies.Range (plain _ refl) is.makes is.range)
      ]

  at_object_outcome : (v : Value) (act : Name → Graph × Reply)
      → ((a : Name) → Outcome g t k (act a)) → Outcome g t k (at_object g v act)
  at_object_outcome Nil act h = unchanged replies.Null (plain _ refl) is.makes is.null
  at_object_outcome (Int n) act h = unchanged replies.Kind (plain _ refl) is.makes is.kind
  at_object_outcome (Ref a) act h = h a

-- what is one of two by a test
chosen_outcome : (g : Graph) (t : ℕ) (k : Command) (won : Bool) (h : Graph)
    → Outcome g t k (h, replies.Yes) → Outcome g t k (g, replies.No)
    → Outcome g t k (cond {A = Graph × Reply} won (h, replies.Yes) (g, replies.No))
chosen_outcome g t k true h p q = p
chosen_outcome g t k false h p q = q

yes_or_no : (b : Bool) → is_plain (cond b replies.Yes replies.No) ≡ true
yes_or_no true = refl
yes_or_no false = refl

abbrev looks : {k : Command} → makes_object k ≡ false → stored_by k replies.Null ≡ None
    → stored_by k replies.Kind ≡ None → stored_by k replies.Range ≡ None → Looks k
looks makes null kind range = record { makes = makes; null = null; kind = kind; range = range }

-- each step is one of these
pub outcome_of : (g : Graph) (t : ℕ) (k : Command) → Outcome g t k (step g t k)
outcome_of g t (commands.New d f) = new_object d Record f refl refl refl (λ a. refl)
outcome_of g t (commands.Arr d e) = new_object d Array e refl refl refl (λ a. refl)
outcome_of g t (commands.Set d v) = in_register d _ _ (number v) (inl refl) refl refl refl
outcome_of g t (commands.Nil d) = in_register d _ _ nil (inl refl) refl refl refl
outcome_of g t (commands.Mov d s) = in_register d _ _ (register s) (inl refl) refl refl refl
outcome_of g t (commands.Get d s i) =
    at_field_outcome g t _ (looks refl refl refl refl) i (register_of g t s) _ (λ a e l.
    in_register d _ _ (field s i a e l) (inr refl) refl refl refl)
outcome_of g t (commands.Put s i v) =
    at_field_outcome g t _ (looks refl refl refl refl) i (register_of g t s) _ (λ a e l.
    in_field s i v a _ e l (inl refl) refl refl refl)
outcome_of g t (commands.Len s) =
    at_object_outcome g t _ (looks refl refl refl refl) (register_of g t s) _ (λ a.
    unchanged _ (plain _ refl) refl refl)
outcome_of g t (commands.Same a b) =
    unchanged _ (plain _ (yes_or_no (same_value (register_of g t a) (register_of g t b)))) refl refl
outcome_of g t (commands.Say s) = unchanged _ (held s) refl refl
outcome_of g t (commands.Swap s i v) =
    at_field_outcome g t _ (looks refl refl refl refl) i (register_of g t s) _ (λ a e l.
    in_both s i v a e l refl refl refl refl)
outcome_of g t (commands.Cas s i b v) =
    at_field_outcome g t _ (looks refl refl refl refl) i (register_of g t s) _ (λ a e l.
    chosen_outcome g t _ (same_value (field_of (object_of g a) i) (register_of g t b)) _
    (in_field s i v a replies.Yes e l (inr refl) refl refl refl)
    (unchanged replies.No (plain _ refl) refl refl))
outcome_of g t (commands.Idle u) = unchanged _ (plain _ refl) refl refl
