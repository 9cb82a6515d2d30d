-- Each row of handles keeps what its table says, and the last row of an operation gives its answer.
use Rattle.std.proofs.Common.{◌≡◌, ◌≢◌, ℕ, suc, ◌+◌, ◌-◌, ◌*◌, ◌<◌, inl, inr, cond, ltb, Bool, Some, None, List, [], ◌∷◌, ◌++◌, eq-eqb, ne_eqb, sym, refl, ap, ◌∙◌, subst, append_assoc, arith}
use Rattle.std.proofs.lemmas.Bool.{cases_lt, lt-ltb}
use Rattle.block_store.specs.declared.Name.{Name}
use Rattle.block_store.specs.declared.Value.{Value}
use Rattle.block_store.specs.declared.Value.TheVariants.{Nil, Int, Ref}
use Rattle.never_heap.specs.declared.Reply.{Reply}
use Rattle.never_heap.specs.declared.Reply.TheVariants.{Yes, No}
use Rattle.never_heap.specs.Graphs.{Object, register_of, object_of, field_of}
use Rattle.never_heap.specs.Steps.{same_value}
use Rattle.never_heap.proofs.Lemmas.{nothing}
use Rattle.array_tables.proofs.operations.LiveBound.{IsPlain}
use Rattle.array_tables.proofs.operations.Pairs.{◌▸◌}
use Rattle.array_tables.proofs.operations.Records.{HasField, reply_by, value_by, tell_known, tell_null, tell_kind, tell_field}
use Rattle.array_tables.proofs.operations.RowRules.{Finish, Told, Says, IsRegister, now, news, sets, puts_in, value_is, fetches, swaps_in, found_is, cas_last, tells_on, tells_last, tells_what}
use Rattle.array_tables.proofs.operations.Turns.{Before, Goes, shared, array, place, known, reply, told, out_same}
use Rattle.array_tables.proofs.operations.Tables.{Empty, Number, Own, Lasting, Plain, Shown, Meant, Hold, Is, Has, own_name, record_with, held, held_here, held_past, Lasts, Meets}
use Rattle.array_tables.specs.handle_table.Handles.{Matched, Found, Slot, id, is_free, holds, shown, slot_at, Row, NewItem, SetNumber, PutNumber, NewBox, PutItem, SetId, PutId, Clean, Claim, Look, Compare, Calm, Release, Fetch, Blank, Withdraw, TellId, TellItem, TellNumber, ends, is_yes, done_told, found_by, found_told, last_after}
use Rattle.array_tables.proofs.handle_table.Boxes.{item_name, box_name, IsItem, IsBox, Shows, IsSmall, HoldsHandle, Means, Other, Handle, Item, box_shape, by_shape, by_kind, low_rest, rest, handle_rest}
use Rattle.array_tables.proofs.handle_table.Compared.{same_handle, same_nil, yes_of, yes_same, done_again, three_again}
use Rattle.array_tables.proofs.handle_table.SlotTable.{item_in, box_in, before, Makes, IsLast, next, kept}

has_field : (c : Slot) (i : ℕ) → i < 2 → HasField (box_shape c) i
has_field None i low = tt
has_field (Some c) i low = omega arith

id_plain : (c : Slot) (old : Value) → IsPlain old → IsPlain (value_by (box_shape c) 1 old)
id_plain None old p = p
id_plain (Some c) old p = tt

item_told : (obj : Name → Object) (out : ℕ → ℕ) (v : Value) (c : Slot) (old : Value)
    → Shows obj out v c → IsSmall obj out old
    → Means obj out (value_by (box_shape c) 0 old) (Item c)
item_told obj out v None old s small = (small, tt)
item_told obj out (Ref a) (Some c) old s small = ((c.2, s.1.0), refl)
item_told obj out _ (Some c) old s small = absurd s

small_of_plain : (obj : Name → Object) (out : ℕ → ℕ) (v : Value) → IsPlain v → IsSmall obj out v
small_of_plain obj out (Ref a) p = absurd p
small_of_plain obj out _ p = tt

handle_register : (h : ℕ) → h < 8 → IsRegister (4 + h)
handle_register h low = grind arith

-- registers at rest do not know of the make of another h
rest_same : (t : ℕ) (last : ℕ → ℕ) (h n p : ℕ) → 4 + h ≢ p
    → rest t last p ≡ rest t (last_after last h n) p
rest_same t last h n p ne = elim (cases_lt p 4) [
  | inl low ↦ rw (lt-ltb p 4 low)
  | inr high ↦ ap (λ (k : ℕ). cond (ltb p 4) (low_rest p)
      (cond (ltb p 12) (Meant (Handle t k)) Plain))
      (sym (ap (λ (z : Bool). cond z n (last (p - 4))) (ne_eqb h (p - 4) (λ e. ne (omega arith)))))
]

module _ (slots : ℕ) where
  -- nil is at rest in each register, before any make
  pub nil_rests : (obj : Name → Object) (out : ℕ → ℕ) (t q : ℕ)
      → Lasts (kept slots) obj out (rest t (λ h. 0) q) Nil
  nil_rests obj out t =
      by_kind (λ m y. Lasts (kept slots) obj out y Nil) t (λ h. 0) (inl tt) tt tt (λ h. refl)

  -- ---- what rows find

  -- the number of the item in register 3
  record NumberTold (b : Before (kept slots) TellNumber) (c : Slot) : Type 0 where
    value : Value
    reply : Reply
    told : Told b 3 value reply
    plain : IsPlain value
    found : found_by (reply_by (box_shape c) 1) reply ≡ shown c

  told_as : {b : Before (kept slots) TellNumber} {c : Slot} {v : Value} {r : Reply} → Told b 3 v r
      → IsPlain v → found_by (reply_by (box_shape c) 1) r ≡ shown c → NumberTold b c
  told_as told plain found =
      record { value = _; reply = _; told = told; plain = plain; found = found }

  number_by : (b : Before (kept slots) TellNumber) (c : Slot) (one three : Value)
      → register_of b.g b.t 3 ≡ three → Shows (object_of b.g) b.out one c
      → Means (object_of b.g) b.out three (Item c) → NumberTold b c
  number_by b None one Nil e s m =
      told_as (tell_null b 3 3 0 refl refl e) (subst IsPlain (sym e) tt) refl
  number_by b None one (Int n) e s m =
      told_as (tell_kind b 3 3 0 refl refl n e) (subst IsPlain (sym e) tt) refl
  number_by b None one (Ref y) e s m =
      told_as (tell_known b 3 3 0 refl refl y (Int m.0.0 ∷ []) e m.0.1.is (omega arith)) tt refl
  number_by b (Some c) (Ref y) three e s m =
      told_as (tell_known b 3 3 0 refl refl (item_name c.0 c.1) (Int c.2 ∷ []) (e ∙ m.1) s.1.0.is
      (omega arith)) tt refl
  number_by b (Some c) _ three e s m = absurd s

  number_told : (b : Before (kept slots) TellNumber) → NumberTold b (place b).cell
  number_told b =
      let p = place b in
      number_by b p.cell (register_of b.g b.t 1) (register_of b.g b.t 3) refl
      (p.spot.regs 1 (omega arith)) (p.spot.regs 3 (omega arith))

  -- the handle that a see or a drop is about, where another register alone is not at rest
  handle_held : {row : Row} (b : Before (kept slots) row) (u j h i q : ℕ)
      (y : Slot → Hold Slot Other) → ((c : Slot) → (before row c).puts ≡ (q, y c) ∷ []) → q < 4
      → IsLast slots b.t (place b).state u j h i → register_of b.g b.t (4 + h) ≡ Ref (box_name u j)
  handle_held b u j h i q y puts low fits =
      let p = place b in
      let v : Value = register_of b.g b.t (4 + h) in
      let r : ℕ → Lasting Slot Other = rest b.t p.state.last in
      let number : p.state.last h ≡ suc j = omega (arith, fits.1) in
      let there : HoldsHandle (object_of b.g) b.out b.t v (suc j) =
      subst (HoldsHandle (object_of b.g) b.out b.t v) number
      (subst (λ (z : Hold Slot Other). Meets (kept slots) (object_of b.g) b.out b.t z v)
      (ap (λ (ps : List (ℕ × Hold Slot Other)). held r ps (4 + h)) (puts p.cell)
      ∙ held_past r [] q (4 + h) (y p.cell) (λ e. omega arith)
      ∙ ap Has (handle_rest b.t p.state.last h fits.2)) (p.spot.regs (4 + h) (omega arith))) in
      there.1 ∙ ap (λ (t : ℕ). Ref (box_name t j)) (sym fits.0)

  claim_finds : (u j h i x : ℕ) (b : Before (kept slots) (Claim u j h i x))
      → same_value (field_of (array b) i) (register_of b.g b.t 2) ≡ is_free (slot_at b.cells i)
  claim_finds u j h i x b =
      ap (same_value (field_of (array b) i)) (value_is b 2 Empty (omega arith) (λ r c. refl))
      ∙ same_nil (object_of b.g) b.out (field_of (array b) i) (slot_at b.cells i)
      (b.holds.shared.slots i (place b).proper.0.0.3)

  release_finds : (u j h i : ℕ) (b : Before (kept slots) (Release u j h i))
      → same_value (field_of (array b) i) (register_of b.g b.t (4 + h))
      ≡ holds (slot_at b.cells i) u j
  release_finds u j h i b =
      let fits = (place b).proper.0.0 in
      ap (same_value (field_of (array b) i))
      (handle_held b u j h i 2 (λ c. Is Empty) (λ c. refl) (omega arith) fits)
      ∙ same_handle (object_of b.g) b.out (field_of (array b) i) (slot_at b.cells i) u j
      (b.holds.shared.slots i fits.3)

  compare_finds : (u j h i : ℕ) (b : Before (kept slots) (Compare u j h i))
      → same_value (register_of b.g b.t 1) (register_of b.g b.t (4 + h)) ≡ holds (place b).cell u j
  compare_finds u j h i b =
      let p = place b in
      ap (same_value (register_of b.g b.t 1))
      (handle_held b u j h i 1 (λ c. Has (Shown c)) (λ c. refl) (omega arith) p.proper.0.0)
      ∙ same_handle (object_of b.g) b.out (register_of b.g b.t 1) p.cell u j
      (p.spot.regs 1 (omega arith))

  -- ---- a make is done: its item and its box are finished

  claim_finish : (u j h i x : ℕ) (b : Before (kept slots) (Claim u j h i x))
      → Finish b (4 + h) (Some (u, j, x))
  claim_finish u j h i x b obj frame s =
      let p = place b in
      let fits = p.proper.0.0 in
      let t : ℕ = b.t in
      let more : ℕ → ℕ = now b in
      let l : Makes = next p.state (Claim u j h i x) in
      let full : more t ≡ b.out t + 2 = out_same b.out t 2 in
      let begun : b.out t ≡ 2 * j = p.counts ∙ ap (λ (y : ℕ). 2 * y) (sym fits.1) in
      let item_is : own_name t (b.out t) 0 ≡ item_name t j = ap (λ (o : ℕ). own_name t o 0) begun in
      let box_is : own_name t (b.out t) 1 ≡ box_name t j = ap (λ (o : ℕ). own_name t o 1) begun in
      let item : IsItem obj more t j x = record {
        some = omega arith;
        finished = omega (arith, full, begun);
        is = ap obj (sym item_is) ∙ s.own 0 (omega arith);
      } in
      let box : IsBox obj more t j x = (
        item,
        record {
          some = omega arith;
          finished = omega (arith, full, begun);
          is = ap obj (sym box_is) ∙ s.own 1 (omega arith)
              ∙ (λ z. record_with (Ref (item_is z) ∷ Int (id (fits.0 z) j) ∷ []));
        },
      ) in
      let r : ℕ → Lasting Slot Other = rest t p.state.last in
      let boxed : register_of b.g t (4 + h) ≡ Ref (box_name t j) =
      subst (λ (y : Hold Slot Other). Meets (kept slots) obj b.out t y (register_of b.g t (4 + h)))
      (held_past r ((2, Is (Number (id u j))) ∷ box_in h x) 2 (4 + h) (Is Empty) (λ e. omega arith)
      ∙ held_past r (box_in h x) 2 (4 + h) (Is (Number (id u j))) (λ e. omega arith)
      ∙ held_here r (item_in x) (4 + h) (Is (Own 1))) (s.regs (4 + h) (omega arith))
      ∙ ap Ref box_is in
      let last_is : l.last h ≡ suc j =
      ap (λ (z : Bool). cond z (p.state.done + 1) (p.state.last h)) (eq-eqb h h refl)
      ∙ omega (arith, fits.1) in (
        subst (λ (v : Value). Shows obj more v (Some (u, j, x))) (sym boxed)
            (subst (λ (y : ℕ). Shows obj more (Ref (box_name t j)) (Some (y, j, x))) (sym fits.0)
            (refl, box)),
        (λ v e. subst IsPlain (sym e) tt) ▸ (λ v e. subst IsPlain (sym e) tt)
            ▸ (λ v e. subst (λ (y : Lasting Slot Other). Lasts (kept slots) obj more y v)
            (sym (handle_rest t l.last h fits.2))
            (subst (HoldsHandle obj more t v) (sym last_is) (x, e ∙ ap Ref box_is, box)))
            ▸ (λ v e. subst IsPlain (sym e) tt)
            ▸ (λ v e. inl (subst (IsSmall obj more) (sym (e ∙ ap Ref item_is)) (x, item))) ▸ tt,
        λ q no. rest_same t p.state.last h (p.state.done + 1) q no.1.1.0,
      )

  -- nothing is in the making, and register v holds nil
  release_finish : (u j h i : ℕ) (b : Before (kept slots) (Release u j h i)) → Finish b 2 None
  release_finish u j h i b obj frame s = (
    subst (λ (v : Value). Shows obj (now b) v None) (sym (s.regs 2 (omega arith))) tt,
    (λ v e. subst IsPlain (sym e) tt, tt),
    λ q no. refl,
  )

  withdraw_finish : (i : ℕ) (b : Before (kept slots) (Withdraw i)) → Finish b 1 None
  withdraw_finish i b obj frame s = (
    subst (λ (v : Value). Shows obj (now b) v None) (sym (s.regs 1 (omega arith))) tt,
    (λ v e. inl (subst (IsSmall obj (now b)) (sym e) tt), tt),
    λ q no. refl,
  )

  -- ---- each row

  pub goes : (row : Row) (b : Before (kept slots) row) → Goes b
  goes (NewItem u j h i x) b = news b 1 1 refl refl (λ c. refl) (refl, refl, λ l. refl)
  goes (SetNumber u j h i x) b =
      sets b 2 (Number x) refl (λ g t o. refl) (λ c. refl) (refl, refl, λ l. refl)
  goes (PutNumber u j h i x) b =
      puts_in b 1 0 2 0 (Number x) (omega arith) (omega arith) refl (λ r c. refl)
      (λ r c. refl) (λ c. refl) (λ c. refl) (refl, refl, λ l. refl)
  goes (NewBox u j h i x) b =
      news b (4 + h) 2 (handle_register h (place b).proper.0.0.2) refl (λ c. refl)
      (refl, refl, λ l. refl)
  goes (PutItem u j h i x) b =
      puts_in b (4 + h) 0 1 1 (Own 0) (omega arith) (omega arith) refl
      (λ r c. held_here r (item_in x) (4 + h) (Is (Own 1)))
      (λ r c. held_past r (item_in x) (4 + h) 1 (Is (Own 1)) (λ e. omega arith))
      (λ c. refl) (λ c. refl) (refl, refl, λ l. refl)
  goes (SetId u j h i x) b =
      sets b 2 (Number (id u j)) refl (λ g t o. refl) (λ c. refl) (refl, refl, λ l. refl)
  goes (PutId u j h i x) b =
      puts_in b (4 + h) 1 2 1 (Number (id u j)) (omega arith) (omega arith) refl
      (λ r c. held_past r (box_in h x) 2 (4 + h) (Is (Number (id u j))) (λ e. omega arith)
      ∙ held_here r (item_in x) (4 + h) (Is (Own 1)))
      (λ r c. refl) (λ c. refl) (λ c. refl) (refl, refl, λ l. refl)
  goes (Clean u j h i x) b = sets b 2 Empty refl (λ g t o. refl) (λ c. refl) (refl, refl, λ l. refl)
  goes (Claim u j h i x) b =
      cas_last b i 2 (4 + h) (Some (u, j, x)) done_told (is_free (slot_at b.cells i))
      (place b).proper.0.0.3 refl (claim_finds u j h i x b) refl refl refl
      (λ l c. omega arith) (claim_finish u j h i x b)
  goes (Look u j h i) b =
      fetches b 1 i refl (place b).proper.0.0.3 refl refl refl (λ l. refl) (λ c. refl)
  goes (Compare u j h i) b =
      let p = place b in
      let told : Told b 1 (register_of b.g b.t 1)
      (cond (same_value (register_of b.g b.t 1) (register_of b.g b.t (4 + h))) Yes No) =
      record { graph = b.g; stepped = refl; effect = nothing b.g b.t 1 (shared b) } in
      tells_last b 1 (register_of b.g b.t 1) _ told (omega arith) refl done_told refl refl
      (λ l. refl)
      refl (inr (p.cell, p.spot.regs 1 (omega arith))) (λ y s. inr (p.cell, s), tt)
  goes (Calm u j h i) b = sets b 2 Empty refl (λ g t o. refl) (λ c. refl) (refl, refl, λ l. refl)
  goes (Release u j h i) b =
      cas_last b i (4 + h) 2 None done_told (holds (slot_at b.cells i) u j)
      (place b).proper.0.0.3 refl (release_finds u j h i b) refl refl refl
      (λ l c. omega arith) (release_finish u j h i b)
  goes (Fetch i) b = fetches b 1 i refl (place b).proper.0.0 refl refl refl (λ l. refl) (λ c. refl)
  goes (Blank i) b = sets b 1 Empty refl (λ g t o. refl) (λ c. refl) (refl, refl, λ l. refl)
  goes (Withdraw i) b =
      swaps_in b i 1 None refl (place b).proper.0.0 refl refl refl (λ c. refl) (λ l c. omega arith)
      (withdraw_finish i b)
  goes TellId b =
      let p = place b in
      tells_on b 2 (value_by (box_shape p.cell) 1 (register_of b.g b.t 2))
      (reply_by (box_shape p.cell) 1) (tell_field b 2 1 1 refl refl box_shape
      (by_shape (object_of b.g) b.out) (λ c. has_field c 1 (omega arith)) (omega arith)
      (λ r c. refl))
      (omega arith) (refl, refl, λ l. refl) (before TellItem p.cell).puts refl
      (id_plain p.cell (register_of b.g b.t 2) (p.spot.regs 2 (omega arith))) (λ q ne x s. s)
  goes TellItem b =
      let p = place b in
      tells_on b 3 (value_by (box_shape p.cell) 0 (register_of b.g b.t 3))
      (reply_by (box_shape p.cell) 0) (tell_field b 3 1 0 refl refl box_shape
      (by_shape (object_of b.g) b.out) (λ c. has_field c 0 (omega arith)) (omega arith)
      (λ r c. refl))
      (omega arith) (refl, refl, λ l. refl) (before TellNumber p.cell).puts refl
      (item_told (object_of b.g) b.out (register_of b.g b.t 1) p.cell (register_of b.g b.t 3)
      (p.spot.regs 1 (omega arith)) (p.spot.regs 3 (omega arith)))
      (λ q ne x. subst (λ (y : Hold Slot Other). Meets (kept slots) (object_of b.g) b.out b.t y x)
      (sym (held_past (rest b.t p.state.last) (before TellItem p.cell).puts 3 q
      (Has (Meant (Item p.cell))) ne)))
  goes TellNumber b =
      let n = number_told b in
      tells_last b 3 n.value n.reply n.told (omega arith) refl found_told refl refl (λ l. refl) refl
      (small_of_plain (object_of b.g) b.out n.value n.plain)
      (λ y s. s.0, (λ y s. inr ((place b).cell, s), tt))

  -- ---- the last row of an operation answers what was decided

  tells_match : {row : Row} (b : Before (kept slots) row) (z : Bool) → ends row ≡ Some done_told
      → (known b).pend ++ told b ≡ Matched z ∷ [] → is_yes (reply b) ≡ z → Says b
  tells_match b z last decided is =
      tells_what b done_told (Matched z) last decided
      (done_again ((place b).replies ++ (known b).heard) (reply b) ∙ ap Matched is)

  pub tells : (row : Row) (b : Before (kept slots) row) → Says b
  tells (Claim u j h i x) b =
      let z : Bool = is_free (slot_at b.cells i) in
      tells_match b z refl refl (ap (λ r. is_yes r.1) (found_is b i 2 (4 + h) z
      (place b).proper.0.0.3 refl (claim_finds u j h i x b)) ∙ yes_of z b.g _)
  tells (Release u j h i) b =
      let z : Bool = holds (slot_at b.cells i) u j in
      tells_match b z refl refl (ap (λ r. is_yes r.1) (found_is b i (4 + h) 2 z
      (place b).proper.0.0.3 refl (release_finds u j h i b)) ∙ yes_of z b.g _)
  tells (Compare u j h i) b =
      tells_match b (holds (place b).cell u j) refl refl
      (ap (λ (y : Bool). is_yes (cond y Yes No)) (compare_finds u j h i b) ∙ yes_same _)
  tells TellNumber b =
      let p = place b in
      let n = number_told b in
      let one : Reply = reply_by (box_shape p.cell) 1 in
      let two : Reply = reply_by (box_shape p.cell) 0 in
      tells_what b found_told (Found (shown p.cell)) refl refl
      (ap found_told (append_assoc p.replies (one ∷ two ∷ []) (reply b ∷ []))
      ∙ three_again p.replies one two (reply b)
      ∙ ap (λ y. Found (found_by one y.1)) n.told.stepped ∙ ap Found n.found)
  tells _ b = tt
