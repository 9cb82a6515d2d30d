-- A turn of a lone thread in a Sweep pass.
use Rattle.std.proofs.Common.{◌≡◌, ℕ, suc, ◌+◌, ◌-◌, ◌≤◌, ◌<◌, Bool, true, false, eqb, ltb, eq-eqb, ne_eqb, lt-ltb, le-ltb, refl, sym, ap, ◌∙◌, arith, inl, inr}
use Rattle.std.proofs.lemmas.Bool.{cases_Bool, cases_eq, cases_lt, ltb-false}
use Rattle.block_store.specs.declared.Config.{Config}
use Rattle.block_store.specs.Colours.{white_word}
use Rattle.block_store.specs.Heaps.{Heap}
use Rattle.block_store.specs.Phases.{is_sweep}
use Rattle.block_store.specs.Places.{Phase, Cursor, ColourOf}
use Rattle.sweep_steps.specs.declared.rows.SweepRow.{SweepRow}
use Rattle.sweep_steps.specs.declared.rows.SweepRow.TheVariants as sweeps
use Rattle.sweep_steps.specs.Fits.{IsLeft}
use Rattle.sweep_steps.specs.Rows.{SweepState, next_block, range_end, sweep_over, sweep_nothing}
use Rattle.rate_plan.specs.solo_bound.Moves.{Spot, Lone, Passed}
use Rattle.heap_system.specs.Parts.{Part, Sweep}
use Rattle.heap_system.specs.Locals.{if_over}
use Rattle.heap_system.proofs.invariant.SeenAndKept.{Seen}
use Rattle.heap_system.proofs.alone.Heads.{has_pass}
use Rattle.heap_system.proofs.alone.LoneThread.{LoneStep, LoneLaw, LoneKnows, heap_left, is_out, lone_of, some}

-- a range has a block, and no more than are owed
range_some : (m owed x : ℕ) → x ≤ m → 1 ≤ owed → (0 < range_end m owed x - x) × (range_end m owed x - x ≤ owed)
range_some m owed x low some = (omega arith, omega arith)

module _ (c : Config) (s : Seen c) (p : SweepState) where
  -- the part at row r, and the one that an event leads to
  abbrev At : SweepRow → Part
  At r = Sweep (record { thread = p.thread; cycle = p.cycle; blocks = p.blocks; owed = p.owed; row = r })

  abbrev To : SweepRow → Part
  To r = if_over (sweep_over r) (sweep_nothing r) (At r)

  abbrev here : SweepRow → Lone
  here r = lone_of c s.heap s.thread (s.due - s.spent) (At r)

  -- after a block that was passed, where so many were freed
  passes_on : (h : Heap) (l : Lone) (x high passed list freed : ℕ) (some : Bool) → l.owed ≡ s.due - s.spent → s.spent < s.due → some ≡ ltb 0 freed → x < high
      → (is_out (To (next_block x high passed list freed)) ≡ false)
      × LoneKnows c h s.thread s.pass s.due (s.spent + 1) (To (next_block x high passed list freed))
      × Passed l (lone_of c h s.thread (s.due - (s.spent + 1)) (To (next_block x high passed list freed))) (high - x) some
  passes_on h l x high passed list freed some owed owes is low =
      let less : suc (s.due - (s.spent + 1)) ≡ l.owed = omega arith in
      elim (cases_lt (x + 1) high) [
        | inl more ↦
            let left : high - x ≡ suc (high - (x + 1)) = omega arith in
            rw (lt-ltb (x + 1) high more) (refl, tt, inr (high - (x + 1), left, omega arith, (ap (Spot.Pass (high - (x + 1))) (sym is), less)))
        | inr last ↦ elim (cases_eq freed 0) [
          | inl none ↦
              let freed_none : some ≡ false = is ∙ le-ltb 0 freed (omega arith) in
              rw (le-ltb (x + 1) high last, eq-eqb freed 0 none, freed_none) (refl, tt, inl (omega arith, (refl, less)))
          | inr some_freed ↦
              let freed_some : some ≡ true = is ∙ lt-ltb 0 freed (omega arith) in
              rw (le-ltb (x + 1) high last, ne_eqb freed 0 some_freed, freed_some) (refl, tt, inl (omega arith, (refl, less)))
        ]
      ]

  reads_cursor : p.blocks ≡ c.blocks → is_sweep (s.heap Phase) ≡ true → s.pass.sweep ≡ true → s.due - s.spent ≡ p.owed → 1 ≤ p.owed → LoneStep c s (At sweeps.ReadCursor)
  reads_cursor blocks phase pass owed some = elim (cases_Bool (ltb p.blocks (s.heap Cursor))) [
    | inl behind ↦
        let none : ltb c.blocks (s.heap Cursor) ≡ true = ap (λ m. ltb m (s.heap Cursor)) (sym blocks) ∙ behind in
        let unready : (here sweeps.ReadCursor).ready ≡ false = rw (phase, none) refl in
        record {
          goes = refl;
          out = rw behind refl;
          knows = rw behind (omega (arith, owed, some), λ mark. absurd (let z : true ≡ false = sym pass ∙ mark in cc));
          moves = rw behind (inr (unready, phase, (refl, refl, refl)));
        }
    | inr there ↦
        let low : s.heap Cursor ≤ p.blocks = ltb-false p.blocks (s.heap Cursor) there in
        let left : ltb c.blocks (s.heap Cursor) ≡ false = ap (λ m. ltb m (s.heap Cursor)) (sym blocks) ∙ there in
        let ready : (here sweeps.ReadCursor).ready ≡ true = rw (phase, left) refl in
        let range = range_some p.blocks p.owed (s.heap Cursor) low some in
        record {
          goes = refl;
          out = rw there refl;
          knows = rw there refl;
          moves = rw there (inl (ready, (range_end p.blocks p.owed (s.heap Cursor) - s.heap Cursor, range.0, omega (arith, range.1, owed), (refl, refl))));
        }
  ]

  claims : (x high : ℕ) → x ≡ s.heap Cursor → LoneStep c s (At (sweeps.ClaimRange x high))
  claims x high known =
      let won = eq-eqb (s.heap Cursor) x (sym known) in
      record { goes = rw won refl; out = rw won refl; knows = rw won tt; moves = rw won (refl, refl) }

  passes : (x high passed list freed : ℕ) → s.spent < s.due → x < high → LoneStep c s (At (sweeps.PassBlock x high passed list freed))
  passes x high passed list freed owes low = elim (cases_Bool (eqb (s.heap (ColourOf x)) (white_word p.cycle))) [
    | inl white ↦ elim (cases_eq freed 0) [
      | inl none ↦ record {
        goes = refl;
        out = rw (white, eq-eqb freed 0 none) refl;
        knows = rw (white, eq-eqb freed 0 none) tt;
        moves = rw (white, eq-eqb freed 0 none) (inl (le-ltb 0 freed (omega arith), (refl, refl)));
      }
      | inr some ↦ record {
        goes = refl;
        out = rw (white, ne_eqb freed 0 some) refl;
        knows = rw (white, ne_eqb freed 0 some) tt;
        moves = rw (white, ne_eqb freed 0 some) (inr (inl (lt-ltb 0 freed (omega arith), (refl, refl))));
      }
    ]
    | inr dark ↦
        let next = passes_on s.heap (here (sweeps.PassBlock x high passed list freed)) x high passed list freed (ltb 0 freed) refl owes refl low in
        record { goes = refl; out = rw dark next.0; knows = rw dark next.1; moves = rw dark (inr (inr next.2)) }
  ]

  frees : (x high passed list freed : ℕ) → s.spent < s.due → x < high → LoneStep c s (At (sweeps.FreeBlock x high passed list freed))
  frees x high passed list freed owes low =
      let row : SweepRow = sweeps.FreeBlock x high passed list freed in
      let next = passes_on (heap_left c s (At row)) (here row) x high passed x (freed + 1) true refl owes (sym (lt-ltb 0 (freed + 1) (omega arith))) low in
      record { goes = refl; out = next.0; knows = next.1; moves = next.2 }

-- what is owed still
pub still_owes : (m owed due paid x high passed : ℕ) → IsLeft m owed x high passed → paid + owed ≡ due + passed → paid < due
still_owes m owed due paid x high passed left settled = omega (arith, left.left, left.due, settled)

-- by the rows
at_row : (c : Config) (t cycle m owed : ℕ) (r : SweepRow) → LoneLaw c (Sweep (record { thread = t; cycle = cycle; blocks = m; owed = owed; row = r }))
at_row c t cycle m owed sweeps.ReadCursor s is alone event known =
    let p : SweepState = record { thread = t; cycle = cycle; blocks = m; owed = owed; row = sweeps.ReadCursor } in
    let phase = has_pass c s (Sweep p) is.gating refl in
    reads_cursor c s p is.fits.0.blocks (phase.1 ∙ is.part.sweep) is.part.sweep (omega (arith, is.settled, is.pays)) is.fits.0.owed
at_row c t cycle m owed (sweeps.ClaimRange x high) s is alone event known =
    claims c s (record { thread = t; cycle = cycle; blocks = m; owed = owed; row = sweeps.ClaimRange x high }) x high known
at_row c t cycle m owed (sweeps.PassBlock x high passed list freed) s is alone event known =
    passes c s (record { thread = t; cycle = cycle; blocks = m; owed = owed; row = sweeps.PassBlock x high passed list freed }) x high passed list freed
    (still_owes c.blocks owed s.due s.spent x high passed is.fits.0.row.0 is.settled) is.fits.0.row.0.left
at_row c t cycle m owed (sweeps.TakeFree x high passed) s is alone event known =
    record { goes = refl; out = refl; knows = tt; moves = (refl, refl) }
at_row c t cycle m owed (sweeps.FreeBlock x high passed list freed) s is alone event known =
    frees c s (record { thread = t; cycle = cycle; blocks = m; owed = owed; row = sweeps.FreeBlock x high passed list freed }) x high passed list freed
    (still_owes c.blocks owed s.due s.spent x high passed is.fits.0.row.0 is.settled) is.fits.0.row.0.left
at_row c t cycle m owed (sweeps.PutFree list passed freed) s is alone event known =
    record { goes = refl; out = refl; knows = tt; moves = (refl, refl) }
at_row c t cycle m owed (sweeps.Credit passed freed) s is alone event known =
    record { goes = refl; out = refl; knows = tt; moves = (refl, refl) }
at_row c t cycle m owed _ s is alone event known = absurd (let z : true ≡ false = is.part.going in cc)

pub sweep_lone : (c : Config) (p : SweepState) → LoneLaw c (Sweep p)
sweep_lone c p = at_row c p.thread p.cycle p.blocks p.owed p.row
