-- Cells that are shown by finished records of numbers, and what a get on such a record answers.
use Rattle.std.proofs.Common.{◌≡◌, ℕ, zero, suc, ◌<◌, ◌≤◌, Option, Some, None, List, [], ◌∷◌, length, map, get_or, sym, refl, ap, ◌∙◌, subst, arith}
use Rattle.block_store.specs.declared.Name.{Name}
use Rattle.block_store.specs.declared.Value.{Value}
use Rattle.block_store.specs.declared.Value.TheVariants.{Nil, Int, Ref}
use Rattle.block_store.specs.declared.Width.TheVariants.{Eight}
use Rattle.object_lists.specs.Records.{record_blocks}
use Rattle.never_heap.specs.declared.Command.TheVariants as commands
use Rattle.never_heap.specs.declared.Reply.{Reply}
use Rattle.never_heap.specs.declared.Reply.TheVariants.{Val, Null, Kind}
use Rattle.never_heap.specs.Graphs.{Graph, Object, register_of, object_of, field_of, with_register}
use Rattle.never_heap.specs.LiveBlocks.{object_blocks}
use Rattle.never_heap.specs.Steps.{step, at_field}
use Rattle.never_heap.proofs.Lemmas.{gets, nothing, refs_weigh, stores}
use Rattle.array_tables.proofs.operations.LiveBound.{IsPlain, no_ref, Carries}
use Rattle.array_tables.proofs.operations.Tables.{Frame, Sym, Own, Lasting, Shown, Hold, Has, Table, own_name, value_of, record_with, record_of, held, Meets}
use Rattle.array_tables.proofs.operations.RowRules.{IsRegister, in_range, Told}
use Rattle.array_tables.proofs.operations.Turns.{Before, shared, place, inside, room, out_after, out_same}

-- a finished record: no command writes in it any more
pub record IsRecord (obj : Name → Object) (out : ℕ → ℕ) (x : Name) (fields : List Value)
    : Type 0 where
  pub some : 1 ≤ x.serial
  pub finished : x.serial ≤ out x.thread
  pub is : obj x ≡ record_with fields

-- what a value shows: nothing if it is nil, or the fields of the record to which it refers
abbrev pub IsShown : (Name → Object) → (ℕ → ℕ) → Value → Option (List Value) → Type 0
IsShown obj out Nil None = Unit {0}
IsShown obj out Nil (Some fields) = ⊥
IsShown obj out (Int n) shape = ⊥
IsShown obj out (Ref x) None = ⊥
IsShown obj out (Ref x) (Some fields) = IsRecord obj out x fields

module _ {obj new : Name → Object} {out more : ℕ → ℕ} (frame : Frame obj new out more) where
  pub record_move : {x : Name} {fields : List Value} → IsRecord obj out x fields
      → IsRecord new more x fields
  record_move {x} s = record {
    some = s.some;
    finished = omega (arith, s.finished, frame.grows x.thread);
    is = frame.kept x s.some s.finished ∙ s.is;
  }

  pub shown_move : (v : Value) (shape : Option (List Value)) → IsShown obj out v shape
      → IsShown new more v shape
  shown_move (Ref x) (Some fields) s = record_move s
  shown_move _ _ s = s

-- an object in the making shows its fields, once it is finished
pub shown_own : (obj : Name → Object) (out : ℕ → ℕ) (t n j : ℕ) (fs : List Sym) (v : Value) → j < n
    → obj (own_name t (out t) j) ≡ record_of t (out t) fs → v ≡ value_of t (out t) (Own j)
    → IsShown obj (out_after out t n) v (Some (map (value_of t (out t)) fs))
shown_own obj out t n j fs v low is refers =
    subst (λ (x : Value). IsShown obj (out_after out t n) x (Some (map (value_of t (out t)) fs)))
    (sym refers) (record {
      some = omega arith;
      finished = omega (arith, out_same out t n);
      is = is;
    })

pub shown_nil : (obj : Name → Object) (out : ℕ → ℕ) (v : Value) → v ≡ Nil → IsShown obj out v None
shown_nil obj out v e = subst (λ (x : Value). IsShown obj out x None) (sym e) tt

-- ---- how many blocks it carries

-- numbers that fit one block
abbrev pub IsSlim : Option (List Value) → Type 0
IsSlim None = Unit {0}
IsSlim (Some fields) =
    (record_blocks Eight (length fields) ≤ 1) × ((i : ℕ) → IsPlain (get_or fields i Nil))

pub plain_numbers : (ns : List ℕ) (i : ℕ) → IsPlain (get_or (map Int ns) i Nil)
plain_numbers [] i = tt
plain_numbers (n ∷ ns) zero = tt
plain_numbers (n ∷ ns) (suc i) = plain_numbers ns i

pub carries_shown : (g : Graph) (out : ℕ → ℕ) (v : Value) (shape : Option (List Value)) (x : Name)
    → IsShown (object_of g) out v shape → IsSlim shape → v ≡ Ref x → Carries Eight g x 1
carries_shown g out (Ref y) None x s slim e = absurd s
carries_shown g out (Ref y) (Some fields) x s slim e = subst (λ (v : Value). carried v) e (record {
  inner = λ i c f. absurd (no_ref _ c (plain i) f);
  weight =
      let none = refs_weigh (λ (c : Name). object_blocks Eight (object_of g c))
      (object_of g y).fields 0 (λ i c f. absurd (no_ref _ c (plain i) f)) in
      let one : object_blocks Eight (object_of g y) ≤ 1 =
      subst (λ (o : Object). object_blocks Eight o ≤ 1) (sym s.is) slim.0 in
      omega (arith, none, one);
})
  where
    carried : Value → Type 0
    carried (Ref c) = Carries Eight g c 1
    carried _ = Unit {0}

    plain : (i : ℕ) → IsPlain (field_of (object_of g y) i)
    plain i = subst (λ (o : Object). IsPlain (field_of o i)) (sym s.is) (slim.1 i)
carries_shown g out _ shape x s slim e = absurd cc

-- ---- what a get answers

abbrev pub reply_by : Option (List Value) → ℕ → Reply
reply_by None i = Null
reply_by (Some fields) i = Val (get_or fields i Nil)

abbrev pub HasField : Option (List Value) → ℕ → Type 0
HasField None i = Unit {0}
HasField (Some fields) i = i < length fields

-- what the register of a get holds after it
abbrev pub value_by : Option (List Value) → ℕ → Value → Value
value_by None i old = old
value_by (Some fields) i old = get_or fields i Nil

pub slim_value : (shape : Option (List Value)) (i : ℕ) (old : Value) → IsSlim shape → IsPlain old
    → IsPlain (value_by shape i old)
slim_value None i old slim plain = plain
slim_value (Some fields) i old slim plain = slim.1 i

module _ {Op Row Answer Cell K L : Type 0} {a : Table Op Row Answer Cell K L} {row : Row}
    (b : Before a row) (d s i : ℕ) (range : IsRegister d)
    (command : a.command_at row ≡ commands.Get d s i) where
  -- a get on a record
  pub tell_known : (x : Name) (fields : List Value) → register_of b.g b.t s ≡ Ref x
      → object_of b.g x ≡ record_with fields → i < length fields
      → Told b d (get_or fields i Nil) (Val (get_or fields i Nil))
  tell_known x fields refers is low = record {
    graph = with_register b.g b.t d (get_or fields i Nil);
    stepped = ap (step b.g b.t) command
        ∙ gets b.g b.t s i x refers (omega (arith, low, ap (λ (o : Object). length o.fields) is)) d
        ∙ ap (λ (o : Object). (with_register b.g b.t d (field_of o i), Val (field_of o i))) is;
    effect = stores b.g b.t d (get_or fields i Nil) (inside b) (room b d (in_range d range).1)
        (shared b);
  }

  abbrev fetched : Name → Graph × Reply
  fetched x =
      (with_register b.g b.t d (field_of (object_of b.g x) i), Val (field_of (object_of b.g x) i))

  -- on nil, or on a number
  tell_none : (v : Value) (r : Reply) → register_of b.g b.t s ≡ v
      → at_field b.g v i fetched ≡ (b.g, r) → Told b d (register_of b.g b.t d) r
  tell_none v r is none = record {
    graph = b.g;
    stepped = ap (step b.g b.t) command ∙ ap (λ (x : Value). at_field b.g x i fetched) is ∙ none;
    effect = nothing b.g b.t d (shared b);
  }

  pub tell_null : register_of b.g b.t s ≡ Nil → Told b d (register_of b.g b.t d) Null
  tell_null is = tell_none Nil Null is refl

  pub tell_kind : (n : ℕ) → register_of b.g b.t s ≡ Int n → Told b d (register_of b.g b.t d) Kind
  tell_kind n is = tell_none (Int n) Kind is refl

  -- on what shows a cell
  pub tell_by : (v : Value) (shape : Option (List Value)) → register_of b.g b.t s ≡ v
      → IsShown (object_of b.g) b.out v shape → HasField shape i
      → Told b d (value_by shape i (register_of b.g b.t d)) (reply_by shape i)
  tell_by Nil None is shown low = tell_null is
  tell_by (Ref x) (Some fields) is shown low = tell_known x fields is shown.is low
  tell_by _ _ is shown low = absurd shown

  pub tell_field : (shape : Cell → Option (List Value))
      → ((v : Value) (c : Cell) → a.Shows (object_of b.g) b.out v c
      → IsShown (object_of b.g) b.out v (shape c))
      → ((c : Cell) → HasField (shape c) i) → 1 ≤ s
      → ((rest : ℕ → Lasting Cell K) (c : Cell)
      → held rest (a.before row c).puts s ≡ Has (Shown c))
      → Told b d (value_by (shape (place b).cell) i (register_of b.g b.t d))
      (reply_by (shape (place b).cell) i)
  tell_field shape by_shape low one shows =
      let p = place b in
      tell_by (register_of b.g b.t s) (shape p.cell) refl (by_shape (register_of b.g b.t s) p.cell
      (subst (λ (h : Hold Cell K). Meets a (object_of b.g) b.out b.t h (register_of b.g b.t s))
      (shows (a.rest b.t p.state) p.cell) (p.spot.regs s one))) (low p.cell)
