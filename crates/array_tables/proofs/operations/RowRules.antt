-- The kinds of rows, each proved once: a row stores in a register, makes an object or writes in one
-- that its thread is making, fetches from the shared array, or stores there. Each rule leads from
-- what the table says before a row to what it says after it.
use Rattle.std.proofs.Common.{◌≡◌, ◌≢◌, ℕ, zero, suc, ◌+◌, ◌<◌, ◌≤◌, ◌&&◌, inl, inr, cond, ltb, Bool, true, false, Option, Some, None, List, [], ◌∷◌, ◌++◌, length, map, get_or, set, replicate, slice_index_or, eq-eqb, ne_eqb, sym, refl, ap, ◌∙◌, subst, append-nil, append_assoc, arith}
use Rattle.std.specs.Prelude.{slice_set}
use Rattle.std.proofs.Math.Seq.{get_or-append_seam}
use Rattle.std.proofs.lemmas.Bool.{cases_eq, cases_lt, and_parts, ltb-true}
use Rattle.std.proofs.lemmas.Grind.{get_or-set_at}
use Rattle.std.proofs.lemmas.List.{length-append, length-map, length-set, get_or_append_left, get_or-set_other, map-set}
use Rattle.block_store.specs.declared.Name.{Name}
use Rattle.block_store.specs.declared.Value.{Value}
use Rattle.block_store.specs.declared.Value.TheVariants.{Nil, Ref}
use Rattle.never_heap.specs.declared.Command.TheVariants as commands
use Rattle.never_heap.specs.declared.Reply.{Reply}
use Rattle.never_heap.specs.declared.Reply.TheVariants.{Yes, No}
use Rattle.never_heap.specs.Graphs.{Graph, Object, Record, nil_object, nils, next_name, register_of, object_of, field_of, set_field, with_register, with_field}
use Rattle.never_heap.specs.Steps.{step, made, swapped, same_value}
use Rattle.never_heap.proofs.Lemmas.{Effect, cas_is, gets, has_field, makes, nothing, puts, puts_is, stores, swaps, swaps_is}
use Rattle.array_tables.specs.operations.Applications.{kept_next, acted, said, Tells}
use Rattle.array_tables.specs.operations.Linearizations.{seen_next}
use Rattle.array_tables.proofs.operations.Tables.{Frame, same_frame, IsMade, Sym, Empty, Own, Lasting, Shown, Hold, Is, Has, Spot, nowhere, Table, name_at, own_name, value_of, record_with, record_of, held, held_here, held_past, behind, spot_by, Lasts, Meets, InSpot, lasts_move, meets_move, spot_move}
use Rattle.array_tables.proofs.operations.Turns.{Before, Arrives, Goes, finishes_none, finishes_more, grown, out_after, out_same, thread, inside, room, place, owes, shared, array, known, reply, acts, told, frame, leaves, shared_stays, shared_changes}

-- the registers in which a row may store, by a test that computes where the register is a number
abbrev pub IsRegister : ℕ → Type 0
IsRegister d = ltb 0 d && ltb d 16 ≡ true

pub in_range : (d : ℕ) → IsRegister d → (1 ≤ d) × (d < 16)
in_range d is =
    let parts = and_parts (ltb 0 d) (ltb d 16) is in (ltb-true 0 d parts.0, ltb-true d 16 parts.1)

-- a new record
nil_record : (t o f : ℕ) → nil_object Record f ≡ record_of t o (replicate f Empty)
nil_record t o f = ap record_with (nothing_in f)
  where
    nothing_in : (n : ℕ) → nils n ≡ map (value_of t o) (replicate n Empty)
    nothing_in zero = refl
    nothing_in (suc n) = ap (λ (vs : List Value). Nil ∷ vs) (nothing_in n)

own_apart : (t o j k : ℕ) → j ≢ k → own_name t o j ≢ own_name t o k
own_apart t o j k ne = grind arith

-- a write in an object leaves the registers
same_register : {g k : Graph} {t : ℕ} {x : Name} {o : Object} {more : ℕ}
    → Effect g k t 1 (register_of g t 1) x o more → (q : ℕ)
    → register_of k t q ≡ register_of g t q
same_register e q = grind arith

-- ---- registers that are at rest again

abbrev pub NotIn : {X : Type 0} → ℕ → List (ℕ × X) → Type 0
NotIn q [] = Unit {0}
NotIn q (p ∷ ps) = (p.0 ≢ q) × NotIn q ps

module _ {Op Row Answer Cell K L : Type 0} (a : Table Op Row Answer Cell K L)
    {obj new : Name → Object} {out more : ℕ → ℕ} (frame : Frame obj new out more) (t : ℕ)
    (l m : L) where
  -- what each of these registers holds is at rest
  abbrev pub AllSettle : List (ℕ × Hold Cell K) → Type 0
  AllSettle [] = Unit {0}
  AllSettle (p ∷ ps) = ((x : Value) → Meets a obj out t p.1 x → Lasts a new more (a.rest t m p.0) x)
      × AllSettle ps

  pub settle : (ps : List (ℕ × Hold Cell K)) (q : ℕ) (x : Value)
      → (NotIn q ps → a.rest t l q ≡ a.rest t m q) → AllSettle ps
      → Meets a obj out t (held (a.rest t l) ps q) x → Lasts a new more (a.rest t m q) x
  settle [] q x same all s = subst (λ (y : Lasting Cell K). Lasts a new more y x) (same tt)
      (lasts_move a frame (a.rest t l q) x s)
  settle (p ∷ ps) q x same all s =
      let P : Bool → Type 0 = λ z. Meets a obj out t (cond z p.1 (held (a.rest t l) ps q)) x in
      elim (cases_eq p.0 q) [
        | inl is ↦ subst (λ (z : ℕ). Lasts a new more (a.rest t m z) x) is
            (all.0 x (subst P (eq-eqb p.0 q is) s))
        | inr ne ↦ settle ps q x (λ no. same (ne, no)) all.1 (subst P (ne_eqb p.0 q ne) s)
      ]

-- ---- the rows

module _ {Op Row Answer Cell K L : Type 0} {a : Table Op Row Answer Cell K L} {row : Row}
    (b : Before a row) where
  -- the value of a register that is known
  pub value_is : (q : ℕ) (s : Sym) → 1 ≤ q
      → ((rest : ℕ → Lasting Cell K) (c : Cell) → held rest (a.before row c).puts q ≡ Is s)
      → register_of b.g b.t q ≡ value_of b.t (b.out b.t) s
  value_is q s one is =
      subst (λ (h : Hold Cell K). Meets a (object_of b.g) b.out b.t h (register_of b.g b.t q))
      (is (a.rest b.t (place b).state) (place b).cell) ((place b).spot.regs q one)

  -- what is known of a register before the row
  abbrev was_held : ℕ → Hold Cell K
  was_held = held (a.rest b.t (place b).state) (known b).puts

  module _ {k : Graph} {d : ℕ} {v : Value} {x : Name} {o : Object} {more : ℕ}
      (e : Effect b.g k b.t d v x o more) where
    -- register d is stored in, and of the others so much is known as before
    lands_by : (obj : Name → Object) (out : ℕ → ℕ) (was target : ℕ → Hold Cell K)
        → ((q : ℕ) → 1 ≤ q → Meets a obj out b.t (was q) (register_of b.g b.t q))
        → Meets a obj out b.t (target d) v
        → ((q : ℕ) → d ≢ q → (y : Value) → Meets a obj out b.t (was q) y
        → Meets a obj out b.t (target q) y)
        → (q : ℕ) → 1 ≤ q → Meets a obj out b.t (target q) (register_of k b.t q)
    lands_by obj out was target met here others q one = elim (cases_eq d q) [
      | inl is ↦ subst (λ (p : ℕ). Meets a obj out b.t (target p) (register_of k b.t p)) is
          (subst (Meets a obj out b.t (target d)) (sym e.stored) here)
      | inr ne ↦ others q ne (register_of k b.t q)
          (subst (Meets a obj out b.t (was q)) (sym (e.own q ne)) (met q one))
    ]

    -- where this is the first entry of the list
    spot_put : (obj : Name → Object) (out : ℕ → ℕ) (l : L) (ps : List (ℕ × Hold Cell K))
        (h : Hold Cell K)
        → ((q : ℕ) → 1 ≤ q → Meets a obj out b.t (held (a.rest b.t l) ps q) (register_of b.g b.t q))
        → Meets a obj out b.t h v → (q : ℕ) → 1 ≤ q
        → Meets a obj out b.t (held (a.rest b.t l) ((d, h) ∷ ps) q) (register_of k b.t q)
    spot_put obj out l ps h met here =
        let rest : ℕ → Lasting Cell K = a.rest b.t l in
        lands_by obj out (held rest ps) (held rest ((d, h) ∷ ps)) met
        (subst (λ (y : Hold Cell K). Meets a obj out b.t y v) (sym (held_here rest ps d h)) here)
        (λ q ne y. subst (λ (z : Hold Cell K). Meets a obj out b.t z y)
        (sym (held_past rest ps d q h ne)))

  -- a row that does not end its operation: what is known before the next one
  abbrev onward : a.ends row ≡ None → (now : ℕ → ℕ) (l : L) (cell : Cell) (s : Spot Answer Cell K)
      (replies : List Reply) → a.next (place b).state row ≡ l → behind a row cell ≡ s
      → now b.t ≡ a.finished l → (known b).pend ++ told b ≡ s.pend
      → (b.at b.t).seen ++ reply b ∷ [] ≡ replies ++ s.heard → Arrives b now
  onward ends now l cell s replies next is counts pend seen = record {
    state = l;
    cell = cell;
    spot = s;
    replies = replies;
    state_is = next;
    spot_is = is;
    counts = counts;
    pending = (λ i. kept_next (ends i) ((place b).pending i ++ told b)) ∙ pend;
    seen = (λ i. seen_next (ends i) ((b.at b.t).seen ++ reply b ∷ [])) ∙ seen;
  }

  -- ---- rows that store in a register alone

  -- where the array alone changed, what was known is known of the graph k
  spot_on : {k : Graph} {d : ℕ} {x : Value} {o : Object} → Effect b.g k b.t d x (shared b) o 0
      → (l : L) (s : Spot Answer Cell K) (r : ℕ → Value)
      → InSpot a (object_of b.g) b.out b.t l s r → InSpot a (object_of k) b.out b.t l s r
  spot_on e =
      spot_move a (frame b e (inl refl) (finishes_none b.out b.t)) b.t refl
      (λ y made_by. e.objects y (λ is. no_name y made_by.1 (ap (λ (z : Name). z.serial) is)))
    where
      no_name : (y : Name) → b.out b.t < y.serial → 0 ≡ y.serial → ⊥
      no_name y some is = omega arith

  quietly : {k : Graph} {d : ℕ} {v : Value} → Effect b.g k b.t d v (shared b) (array b) 0
      → 1 ≤ d → (step b.g b.t (a.command_at row)).0 ≡ k → acts b ≡ b.cells
      → (s : Arrives b b.out) → length (known b).made ≡ length s.spot.made
      → InSpot a (object_of b.g) b.out b.t s.state s.spot (register_of k b.t) → Goes b
  quietly {k} e one stepped same s keeps holds =
      let none = finishes_none b.out b.t in
      leaves b e (inl refl) none one stepped (shared_stays b e (inl refl) none e.object same) s
      (omega (arith, keeps)) (spot_on e s.state s.spot (register_of k b.t) holds)

  -- a row that neither decides nor ends an operation
  abbrev pub Still : Type 0
  Still = (a.decides row ≡ None) × (a.ends row ≡ None) × ((l : L) → a.next l row ≡ l)

  -- before the next row this is known of registers, objects in the making, and replies
  abbrev still : Still → (ps : List (ℕ × Hold Cell K)) (m : List (List Sym))
      (replies hs : List Reply)
      → behind a row (place b).cell ≡ record (known b) { puts = ps; made = m; heard = hs }
      → (b.at b.t).seen ++ reply b ∷ [] ≡ replies ++ hs → Arrives b b.out
  still s ps m replies hs is seen =
      onward s.1 b.out (place b).state (place b).cell
      (record (known b) { puts = ps; made = m; heard = hs }) replies (s.2 (place b).state) is
      (place b).counts (ap (λ (x : Option Op). (known b).pend ++ said a.say x b.cells) s.0
      ∙ append-nil (known b).pend) seen

  -- or no reply is kept
  abbrev silent : Still → (ps : List (ℕ × Hold Cell K)) (m : List (List Sym))
      → behind a row (place b).cell ≡ record (known b) { puts = ps; made = m; heard = [] }
      → Arrives b b.out
  silent s ps m is = still s ps m ((b.at b.t).seen ++ reply b ∷ []) [] is (sym (append-nil _))

  -- the state of a row that decides nothing
  undecided : a.decides row ≡ None → acts b ≡ b.cells
  undecided none = ap (λ (x : Option Op). acted a.act x b.cells) none

  -- nil or a number in a register
  pub sets : (d : ℕ) (s : Sym) → IsRegister d
      → ((g : Graph) (t o : ℕ)
      → (step g t (a.command_at row)).0 ≡ with_register g t d (value_of t o s))
      → ((c : Cell) → behind a row c
      ≡ record (a.before row c) { puts = (d, Is s) ∷ (a.before row c).puts; heard = [] })
      → Still → Goes b
  sets d s range stepped is quiet =
      let low = in_range d range in
      let e = stores b.g b.t d (value_of b.t (b.out b.t) s) (inside b)
      (room b d low.1) (shared b) in
      quietly e low.0 (stepped b.g b.t (b.out b.t)) (undecided quiet.0)
      (silent quiet ((d, Is s) ∷ (known b).puts) (known b).made (is (place b).cell)) refl (record {
        regs = spot_put e (object_of b.g) b.out (place b).state (known b).puts (Is s)
            (place b).spot.regs refl;
        own = (place b).spot.own;
      })

  -- ---- rows that make an object, or write in one in the making

  module _ {k : Graph} {d : ℕ} {v : Value} {x : Name} {o : Object} {more : ℕ}
      (e : Effect b.g k b.t d v x o more) (own : IsMade b.out b.t x) where
    filling : 1 ≤ d → (step b.g b.t (a.command_at row)).0 ≡ k → a.decides row ≡ None
        → (s : Arrives b b.out) → length (known b).made + more ≡ length s.spot.made
        → InSpot a (object_of k) b.out b.t s.state s.spot (register_of k b.t) → Goes b
    filling one stepped none s counted =
        let same = finishes_none b.out b.t in
        leaves b e (inr own) same one stepped (shared_stays b e (inr own) same
        (e.objects (shared b) (λ is. no_name own.1 (ap (λ (z : Name). z.serial) is)))
        (undecided none))
        s (omega (arith, counted))
      where
        no_name : b.out b.t < x.serial → x.serial ≡ 0 → ⊥
        no_name some is = omega arith

    -- what was known of registers is known after the change of an object in the making
    regs_on : (q : ℕ) → 1 ≤ q
        → Meets a (object_of k) b.out b.t (was_held q) (register_of b.g b.t q)
    regs_on q one =
        meets_move a (frame b e (inr own) (finishes_none b.out b.t)) b.t refl (was_held q)
        (register_of b.g b.t q) ((place b).spot.regs q one)

  -- a new object of so many fields
  pub news : (d f : ℕ) → IsRegister d → a.command_at row ≡ commands.New d f
      → ((c : Cell) → behind a row c ≡ record (a.before row c) {
        puts = (d, Is (Own (length (a.before row c).made))) ∷ (a.before row c).puts;
        made = (a.before row c).made ++ replicate f Empty ∷ [];
        heard = [];
      })
      → Still → Goes b
  news d f range command is quiet =
      let low = in_range d range in
      let was : List (List Sym) = (known b).made in
      let o : ℕ = b.out b.t in
      let own : Name = own_name b.t o (length was) in
      let k : Graph = (made b.g b.t d (nil_object Record f)).0 in
      let name : next_name b.g b.t ≡ own =
      ap (λ (y : ℕ). name_at b.t (y + 1)) ((thread b).counted ∙ ap (λ (y : ℕ). o + y) (owes b)) in
      let e : Effect b.g k b.t d (Ref own) own (nil_object Record f) 1 =
      subst (λ (x : Name). Effect b.g k b.t d (Ref x) x (nil_object Record f) 1) name
      (makes b.g b.t d (nil_object Record f) (inside b) (room b d low.1)) in
      let safe : IsMade b.out b.t own = (refl, omega arith) in
      let long = length-append was (replicate f Empty ∷ []) in
      filling e safe low.0 (ap (λ c. (step b.g b.t c).0) command) quiet.0
      (silent quiet ((d, Is (Own (length was))) ∷ (known b).puts) (was ++ replicate f Empty ∷ [])
      (is (place b).cell)) (sym long) (record {
        regs = spot_put e (object_of k) b.out (place b).state (known b).puts (Is (Own (length was)))
            (regs_on e safe) refl;
        own = λ j below. elim (cases_lt j (length was)) [
          | inl old ↦ e.objects (own_name b.t o j)
              (own_apart b.t o (length was) j (λ z. omega arith))
              ∙ (place b).spot.own j old
              ∙ ap (record_of b.t o) (sym (get_or_append_left was
              (replicate f Empty ∷ []) [] j old))
          | inr high ↦ (let last : length was ≡ j = omega arith in
              subst (λ (i : ℕ). object_of k (own_name b.t o i)
              ≡ record_of b.t o (get_or (was ++ replicate f Empty ∷ []) i [])) last
              (e.object ∙ nil_record b.t o f
              ∙ ap (record_of b.t o) (sym (get_or-append_seam was (replicate f Empty) [] []))))
        ];
      })

  -- field i of the j-th object in the making becomes what register v holds
  pub puts_in : (d i v j : ℕ) (s : Sym) → 1 ≤ d → 1 ≤ v → a.command_at row ≡ commands.Put d i v
      → ((rest : ℕ → Lasting Cell K) (c : Cell) → held rest (a.before row c).puts d ≡ Is (Own j))
      → ((rest : ℕ → Lasting Cell K) (c : Cell) → held rest (a.before row c).puts v ≡ Is s)
      → ((c : Cell) → ltb j (length (a.before row c).made)
      && ltb i (length (get_or (a.before row c).made j [])) ≡ true)
      → ((c : Cell) → behind a row c ≡ record (a.before row c) {
        made = set (a.before row c).made j (set (get_or (a.before row c).made j []) i s);
        heard = [];
      })
      → Still → Goes b
  puts_in d i v j s one_d one_v command refers stored there_is is quiet =
      let was : List (List Sym) = (known b).made in
      let o : ℕ = b.out b.t in
      let own : Name = own_name b.t o j in
      let ds : List Sym = get_or was j [] in
      let there = and_parts (ltb j (length was)) (ltb i (length ds)) (there_is (place b).cell) in
      let low = ltb-true j (length was) there.0 in
      let refs : register_of b.g b.t d ≡ Ref own = value_is d (Own j) one_d refers in
      let value : register_of b.g b.t v ≡ value_of b.t o s = value_is v s one_v stored in
      let object_is : object_of b.g own ≡ record_of b.t o ds = (place b).spot.own j low in
      let short : i < length (object_of b.g own).fields = omega (
        arith,
        ltb-true i (length ds) there.1,
        ap (λ (x : Object). length x.fields) object_is,
        length-map ds (value_of b.t o),
      ) in
      let k : Graph = with_field b.g own i (register_of b.g b.t v) in
      let new : Object = set_field (object_of b.g own) i (register_of b.g b.t v) in
      let e : Effect b.g k b.t 1 (register_of b.g b.t 1) own new 0 =
      puts b.g own i (register_of b.g b.t v) (has_field b.g own i short) b.t 1 in
      let safe : IsMade b.out b.t own = (refl, omega arith) in
      let now : object_of k own ≡ record_of b.t o (set ds i s) =
      e.object ∙ (λ z. set_field (object_is z) i (value z))
      ∙ ap record_with (sym (map-set (value_of b.t o) ds i s)) in
      let long = length-set was j (set ds i s) in
      filling e safe (omega arith)
      (ap (λ c. (step b.g b.t c).0) command ∙ ap (λ p. p.0) (puts_is b.g b.t d i own refs short v))
      quiet.0 (silent quiet (known b).puts (set was j (set ds i s)) (is (place b).cell))
      (omega (arith, long)) (record {
        regs = λ q one. subst (Meets a (object_of k) b.out b.t (was_held q))
            (sym (same_register e q))
            (regs_on e safe q one);
        own = λ m few. elim (cases_eq j m) [
          | inl same ↦ subst (λ (z : ℕ). object_of k (own_name b.t o z)
              ≡ record_of b.t o (get_or (set was j (set ds i s)) z [])) same
              (now ∙ ap (record_of b.t o) (sym (get_or-set_at was j j (set ds i s) [] refl low)))
          | inr ne ↦ e.objects (own_name b.t o m) (own_apart b.t o j m ne)
              ∙ (place b).spot.own m (omega (arith, few, long))
              ∙ ap (record_of b.t o) (sym (get_or-set_other was j m (set ds i s) []
              (λ y. ne (sym y))))
        ];
      })

  -- ---- rows that fetch from the array

  place_there : (i : ℕ) → i < a.size → i < length (array b).fields
  place_there i low = omega (arith, b.holds.shared.long)

  pub fetches : (d i : ℕ) → IsRegister d → i < a.size → a.command_at row ≡ commands.Get d 0 i
      → acts b ≡ b.cells → a.ends row ≡ None → ((l : L) → a.next l row ≡ l)
      → ((c : Cell) → behind a row (slice_index_or b.cells i a.none) ≡ record (a.before row c) {
        puts = (d, Has (Shown (slice_index_or b.cells i a.none))) ∷ (a.before row c).puts;
        pend = (a.before row c).pend ++ told b;
        heard = [];
      })
      → Goes b
  fetches d i range low command same ends next is =
      let in_row = in_range d range in
      let e = stores b.g b.t d (field_of (array b) i) (inside b) (room b d in_row.1) (shared b) in
      let cell : Cell = slice_index_or b.cells i a.none in
      quietly e in_row.0
      (ap (λ c. (step b.g b.t c).0) command
      ∙ ap (λ p. p.0) (gets b.g b.t 0 i (shared b) (thread b).zero (place_there i low) d)) same
      (onward ends b.out (place b).state cell (record (known b) {
        puts = (d, Has (Shown cell)) ∷ (known b).puts;
        pend = (known b).pend ++ told b;
        heard = [];
      }) ((b.at b.t).seen ++ reply b ∷ []) (next (place b).state) (is (place b).cell)
      (place b).counts refl (sym (append-nil _))) refl (record {
        regs = spot_put e (object_of b.g) b.out (place b).state (known b).puts (Has (Shown cell))
            (place b).spot.regs (b.holds.shared.slots i low);
        own = (place b).spot.own;
      })

  -- ---- rows that store there, which finishes all that is in the making

  abbrev pub left : ℕ
  left = length (known b).made

  abbrev pub now : ℕ → ℕ
  now = out_after b.out b.t left

  -- What an application has to show: register v shows a cell, and what was known of registers is
  -- known of them at rest.
  abbrev pub Finish : (v : ℕ) → Cell → Type 0
  Finish v cell = (obj : Name → Object) (frame : Frame obj obj b.out now)
      → InSpot a obj b.out b.t (place b).state (known b) (register_of b.g b.t)
      → a.Shows obj now (register_of b.g b.t v) cell
      × AllSettle a frame b.t (place b).state (a.next (place b).state row) (known b).puts
      × ((q : ℕ) → NotIn q (known b).puts
      → a.rest b.t (place b).state q ≡ a.rest b.t (a.next (place b).state row) q)

  -- how many objects an operation finishes
  abbrev pub Counts : Type 0
  Counts = (l : L) (c : Cell) → a.finished (a.next l row)
      ≡ a.finished l + length (a.before row c).made

  done_by : (v : ℕ) (cell : Cell) → Finish v cell → (obj : Name → Object)
      → InSpot a obj b.out b.t (place b).state (known b) (register_of b.g b.t)
      → a.Shows obj now (register_of b.g b.t v) cell × ((q : ℕ) → 1 ≤ q
      → Lasts a obj now (a.rest b.t (a.next (place b).state row) q) (register_of b.g b.t q))
  done_by v cell finish obj s =
      let frame : Frame obj obj b.out now = record {
        grows = grown b.out now b.t left (finishes_more b.out b.t left);
        kept = λ x some low. refl;
      } in
      let done = finish obj frame s in (
        done.0,
        λ q one. settle a frame b.t (place b).state (a.next (place b).state row) (known b).puts q
            (register_of b.g b.t q) (done.2 q) done.1 (s.regs q one),
      )

  counted : Counts → now b.t ≡ a.finished (a.next (place b).state row)
  counted more =
      omega (arith, out_same b.out b.t left, (place b).counts, more (place b).state (place b).cell)

  -- at an operation's end the thread is at rest
  abbrev ended : (f : List Reply → Answer) → a.ends row ≡ Some f → a.follow row ≡ None
      → (more : ℕ → ℕ) → more b.t ≡ a.finished (a.next (place b).state row) → Arrives b more
  ended f ends none more counts = record {
    state = a.next (place b).state row;
    cell = a.none;
    spot = nowhere;
    replies = [];
    state_is = refl;
    spot_is = ap (λ (z : Option Row). spot_by a z a.none) none;
    counts = counts;
    pending = (λ i. kept_next (ends i) ((b.at b.t).pending ++ told b));
    seen = (λ i. seen_next (ends i) ((b.at b.t).seen ++ reply b ∷ []));
  }

  abbrev rests : (obj : Name → Object) (more : ℕ → ℕ) (l : L) (r : ℕ → Value)
      → ((q : ℕ) → 1 ≤ q → Lasts a obj more (a.rest b.t l q) (r q))
      → InSpot a obj more b.t l nowhere r
  rests obj more l r each = record { regs = each; own = λ j low. absurd (omega arith) }

  -- a store that ends its operation
  stores_at : (i v : ℕ) (cell : Cell) (f : List Reply → Answer) → i < a.size
      → (step b.g b.t (a.command_at row)).0 ≡ with_field b.g (shared b) i (register_of b.g b.t v)
      → acts b ≡ slice_set b.cells i cell → a.ends row ≡ Some f → a.follow row ≡ None → Counts
      → Finish v cell → Goes b
  stores_at i v cell f low stepped same ends none more finish =
      let y : Value = register_of b.g b.t v in
      let k : Graph = with_field b.g (shared b) i y in
      let l : L = a.next (place b).state row in
      let e : Effect b.g k b.t 1 (register_of b.g b.t 1) (shared b) (set_field (array b) i y) 0 =
      puts b.g (shared b) i y (has_field b.g (shared b) i (place_there i low)) b.t 1 in
      let done = done_by v cell finish (object_of k) (spot_on e _ _ _ (place b).spot) in
      let fin = finishes_more b.out b.t left in
      leaves b e (inl refl) fin (omega arith) stepped
      (shared_changes b e (inl refl) fin i y cell e.object low same done.0)
      (ended f ends none now (counted more)) refl
      (rests (object_of k) now l (register_of k b.t)
      (λ q some. subst (Lasts a (object_of k) now (a.rest b.t l q)) (sym (same_register e q))
      (done.1 q some)))

  pub stores_last : (i v : ℕ) (cell : Cell) (f : List Reply → Answer) → i < a.size
      → a.command_at row ≡ commands.Put 0 i v → acts b ≡ slice_set b.cells i cell
      → a.ends row ≡ Some f → a.follow row ≡ None → Counts → Finish v cell → Goes b
  stores_last i v cell f low command =
      stores_at i v cell f low (ap (λ c. (step b.g b.t c).0) command
      ∙ ap (λ p. p.0) (puts_is b.g b.t 0 i (shared b) (thread b).zero (place_there i low) v))

  -- an exchange
  pub swaps_in : (i v : ℕ) (cell : Cell) → IsRegister v → i < a.size
      → a.command_at row ≡ commands.Swap 0 i v → acts b ≡ slice_set b.cells i cell
      → a.ends row ≡ None
      → ((c : Cell) → behind a row (slice_index_or b.cells i a.none) ≡ record {
        puts = (v, Has (Shown (slice_index_or b.cells i a.none))) ∷ [];
        made = [];
        pend = (a.before row c).pend ++ told b;
        heard = [];
      })
      → Counts → Finish v cell → Goes b
  swaps_in i v cell range low command same ends is more finish =
      let in_row = in_range v range in
      let y : Value = register_of b.g b.t v in
      let x : Value = field_of (array b) i in
      let k : Graph = swapped b.g b.t (shared b) i v in
      let l : L = a.next (place b).state row in
      let old : Cell = slice_index_or b.cells i a.none in
      let e : Effect b.g k b.t v x (shared b) (set_field (array b) i y) 0 =
      swaps b.g b.t v (shared b) i (has_field b.g (shared b) i (place_there i low)) (inside b)
      (room b v in_row.1) in
      let done = done_by v cell finish (object_of k) (spot_on e _ _ _ (place b).spot) in
      let fin = finishes_more b.out b.t left in
      leaves b e (inl refl) fin in_row.0
      (ap (λ c. (step b.g b.t c).0) command
      ∙ ap (λ p. p.0) (swaps_is b.g b.t 0 i (shared b) (thread b).zero (place_there i low) v))
      (shared_changes b e (inl refl) fin i y cell e.object low same done.0)
      (onward ends now l old (record {
        puts = (v, Has (Shown old)) ∷ [];
        made = [];
        pend = (known b).pend ++ told b;
        heard = [];
      }) ((b.at b.t).seen ++ reply b ∷ []) refl (is (place b).cell) (counted more) refl
      (sym (append-nil _))) refl (record {
        regs = spot_put e (object_of k) now l [] (Has (Shown old)) done.1
            (a.shows_move (object_of b.g) (object_of k) b.out now (frame b e (inl refl) fin) x old
            (b.holds.shared.slots i low));
        own = λ j few. absurd (omega arith);
      })

  -- a compare-and-swap that ends its operation: it stores, or it leaves the array
  pub found_is : (i x v : ℕ) (z : Bool) → i < a.size → a.command_at row ≡ commands.Cas 0 i x v
      → same_value (field_of (array b) i) (register_of b.g b.t x) ≡ z
      → step b.g b.t (a.command_at row)
      ≡ cond z (with_field b.g (shared b) i (register_of b.g b.t v), Yes) (b.g, No)
  found_is i x v z low command found =
      ap (step b.g b.t) command
      ∙ cas_is b.g b.t 0 i (shared b) (thread b).zero (place_there i low) x v z found

  cas_by : (i v : ℕ) (cell : Cell) (f : List Reply → Answer) (z : Bool) → i < a.size
      → (step b.g b.t (a.command_at row)).0
      ≡ (cond {A = Graph × Reply} z (with_field b.g (shared b) i (register_of b.g b.t v), Yes)
      (b.g, No)).0
      → acts b ≡ cond z (slice_set b.cells i cell) b.cells
      → a.ends row ≡ Some f → a.follow row ≡ None → Counts → Finish v cell → Goes b
  cas_by i v cell f true low stepped same ends none more finish =
      stores_at i v cell f low stepped same ends none more finish
  cas_by i v cell f false low stepped same ends none more finish =
      let e = nothing b.g b.t 1 (shared b) in
      let fin = finishes_more b.out b.t left in
      leaves b e (inl refl) fin (omega arith) stepped (shared_stays b e (inl refl) fin refl same)
      (ended f ends none now (counted more)) refl
      (rests (object_of b.g) now (a.next (place b).state row) (register_of b.g b.t)
      (done_by v cell finish (object_of b.g) (place b).spot).1)

  pub cas_last : (i x v : ℕ) (cell : Cell) (f : List Reply → Answer) (z : Bool) → i < a.size
      → a.command_at row ≡ commands.Cas 0 i x v
      → same_value (field_of (array b) i) (register_of b.g b.t x) ≡ z
      → acts b ≡ cond z (slice_set b.cells i cell) b.cells
      → a.ends row ≡ Some f → a.follow row ≡ None → Counts → Finish v cell → Goes b
  cas_last i x v cell f z low command found =
      cas_by i v cell f z low (ap (λ p. p.0) (found_is i x v z low command found))

  -- ---- rows whose reply says something of what was fetched

  -- the reply of the row is r, and register d holds v after it
  pub record Told (d : ℕ) (v : Value) (r : Reply) : Type 0 where
    pub graph : Graph
    pub stepped : step b.g b.t (a.command_at row) ≡ (graph, r)
    pub effect : Effect b.g graph b.t d v (shared b) (array b) 0

  -- a reply that is kept for the next row
  pub tells_on : (d : ℕ) (v : Value) (r : Reply) → Told d v r → 1 ≤ d → Still
      → (ps : List (ℕ × Hold Cell K)) → behind a row (place b).cell
      ≡ record (known b) { puts = ps; heard = (known b).heard ++ r ∷ [] }
      → Meets a (object_of b.g) b.out b.t (held (a.rest b.t (place b).state) ps d) v
      → ((q : ℕ) → d ≢ q → (x : Value) → Meets a (object_of b.g) b.out b.t (was_held q) x
      → Meets a (object_of b.g) b.out b.t (held (a.rest b.t (place b).state) ps q) x) → Goes b
  tells_on d v r heard one s ps is here others =
      quietly heard.effect one (ap (λ p. p.0) heard.stepped) (undecided s.0)
      (still s ps (known b).made (place b).replies ((known b).heard ++ r ∷ []) is
      ((λ i. (place b).seen i ++ ap (λ p. p.1) heard.stepped i ∷ [])
      ∙ append_assoc (place b).replies (known b).heard (r ∷ []))) refl (record {
        regs = lands_by heard.effect (object_of b.g) b.out was_held
            (held (a.rest b.t (place b).state) ps) (place b).spot.regs here others;
        own = (place b).spot.own;
      })

  -- the last reply of an operation, after which the thread is at rest
  pub tells_last : (d : ℕ) (v : Value) (r : Reply) → Told d v r → 1 ≤ d
      → a.decides row ≡ None → (f : List Reply → Answer) → a.ends row ≡ Some f → a.follow row ≡ None
      → ((l : L) → a.next l row ≡ l) → length (known b).made ≡ 0
      → Lasts a (object_of b.g) b.out (a.rest b.t (place b).state d) v
      → AllSettle a (same_frame (object_of b.g) b.out) b.t (place b).state (place b).state
      (known b).puts → Goes b
  tells_last d v r heard one none f ends last next no_more here all =
      let l : L = (place b).state in
      quietly heard.effect one (ap (λ p. p.0) heard.stepped) (undecided none)
      (ended f ends last b.out ((place b).counts ∙ ap a.finished (sym (next l)))) no_more
      (rests (object_of b.g) b.out (a.next l row) (register_of heard.graph b.t)
      (λ q some. subst (λ (m : L). Lasts a (object_of b.g) b.out (a.rest b.t m q)
      (register_of heard.graph b.t q)) (sym (next l))
      (lands_by heard.effect (object_of b.g) b.out was_held (λ p. Has (a.rest b.t l p))
      (place b).spot.regs here (λ p ne x. settle a (same_frame (object_of b.g) b.out) b.t l l
      (known b).puts p x (λ no. refl) all) q some)))

  -- the last row answers what was decided
  abbrev pub Says : Type 0
  Says = Tells (a.ends row) ((b.at b.t).seen ++ reply b ∷ []) ((b.at b.t).pending ++ told b)

  pub tells_what : (f : List Reply → Answer) (x : Answer) → a.ends row ≡ Some f
      → (known b).pend ++ told b ≡ x ∷ []
      → f (((place b).replies ++ (known b).heard) ++ reply b ∷ []) ≡ x → Says
  tells_what f x ends decided tells =
      subst (λ (g : Option (List Reply → Answer)). Tells g ((b.at b.t).seen ++ reply b ∷ [])
      ((b.at b.t).pending ++ told b)) (sym ends)
      (ap (λ (l : List Answer). l ++ told b) (place b).pending ∙ decided
      ∙ ap (λ (y : Answer). y ∷ []) (sym tells
      ∙ ap (λ (l : List Reply). f (l ++ reply b ∷ [])) (sym (place b).seen)))
