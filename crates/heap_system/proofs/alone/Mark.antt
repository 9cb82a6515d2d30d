-- A lone thread in a Mark pass.
use Rattle.std.proofs.Common.{◌≡◌, ℕ, suc, ◌+◌, ◌-◌, ◌≤◌, ◌<◌, true, false, eqb, ltb, eq-eqb, ne_eqb, ltb-true, ltb-false, lt-ltb, le-ltb, refl, sym, ap, ◌∙◌, subst, arith, inl, inr}
use Rattle.std.proofs.lemmas.Bool.{cases_Bool, cases_eq, cases_lt}
use Rattle.block_store.specs.declared.Config.{Config}
use Rattle.block_store.specs.Heaps.{Heap, put_at}
use Rattle.block_store.specs.Payloads.{target}
use Rattle.block_store.specs.Phases.{is_sweep}
use Rattle.block_store.specs.Places.{Phase, GreyList, ColourOf, PayloadOf}
use Rattle.block_store.specs.Widths.{payloads}
use Rattle.heap_machine.specs.declared.pass.Pass.{Pass}
use Rattle.grey_steps.specs.declared.rows.GreyRow.{GreyRow}
use Rattle.grey_steps.specs.declared.rows.GreyRow.TheVariants as greys
use Rattle.grey_steps.specs.Rows.{GreyState, list_of, after_word, shaded_list, grey_over, grey_nothing}
use Rattle.grey_steps.proofs.MarkUnits.{each_list}
use Rattle.rate_plan.specs.solo_bound.Moves.{Spot, Lone, Dealt}
use Rattle.heap_system.specs.Parts.{Part, Mark}
use Rattle.heap_system.specs.Locals.{if_over}
use Rattle.heap_system.proofs.invariant.SeenAndKept.{Seen}
use Rattle.heap_system.proofs.alone.Heads.{some_none, some_first, some_next, some_same, same_lone, has_pass}
use Rattle.heap_system.proofs.alone.LoneThread.{terms_of, some, grey_heads, lone_of, NoGrey, LoneStep, LoneLaw, LoneKnows, is_out, heap_left}

-- where a list is 0 that is taken, the heap is as it was
pub taken : (h : Heap) (a b : ℕ) → h (GreyList a) ≡ 0 → put_at h (GreyList a) 0 (GreyList b) ≡ h (GreyList b)
taken h a b none = elim (cases_eq a b) [
  | inl e ↦ rw (eq-eqb a b e) (sym (ap (λ x. h (GreyList x)) (sym e) ∙ none))
  | inr ne ↦ rw (ne_eqb a b ne) refl
]

-- where thread t read each list 0, as it takes them, all are
all_none : (c : Config) (h : Heap) (t : ℕ) → t < c.threads → ((v : ℕ) → v < c.threads → grey_heads c h t v ≡ 0) → NoGrey c h
all_none c h t low none v vl =
    let at = each_list t c.threads v low vl in
    ap (λ x. h (GreyList x)) (sym at.2) ∙ none at.0 at.1

-- after a payload word was dealt with, by whether there are more
after_each : (P : GreyRow → Type 0) (width x j list : ℕ)
    → (j + 1 < width → P (greys.ScanWord x (j + 1) list))
    → (width ≤ j + 1 → P (greys.Blacken x list)) → P (after_word width x j list)
after_each P width x j list more last = elim (cases_Bool (ltb (j + 1) width)) [
  | inl e ↦ rw e (more (ltb-true (j + 1) width e))
  | inr e ↦ rw e (last (ltb-false (j + 1) width e))
]

module _ (c : Config) (s : Seen c) (low : s.spent < s.due) where
  abbrev Heads : Heap → ℕ → ℕ
  Heads h = grey_heads c h s.thread

  -- the part at row r, and the one that an event leads to
  abbrev At : Pass → GreyRow → Part
  At p r = Mark (record { pass = p; row = r })

  abbrev To : Pass → GreyRow → Part
  To p r = if_over (grey_over r) (grey_nothing r) (At p r)

  -- one list more of those that the thread has read 0
  read : (u : ℕ) → ((v : ℕ) → v < u → Heads s.heap v ≡ 0) → Heads s.heap u ≡ 0
      → (v : ℕ) → v < u + 1 → Heads s.heap v ≡ 0
  read u none one v vl = elim (cases_eq v u) [
    | inl e ↦ ap (Heads s.heap) e ∙ one
    | inr ne ↦ none v (omega arith)
  ]

  module _ (p : Pass) (own : p.thread ≡ s.thread) (many : p.threads ≡ c.threads)
      (mark : is_sweep (s.heap Phase) ≡ false) (u : ℕ) (ul : u < c.threads)
      (none : (v : ℕ) → v < u → Heads s.heap v ≡ 0) where
    abbrev q : Pass
    q = record { thread = s.thread; threads = c.threads; cycle = p.cycle; sweep = p.sweep }

    abbrev later : Heap
    later = put_at s.heap (GreyList (list_of s.thread c.threads u)) 0

    skipped : Heads s.heap u ≡ 0 → (v : ℕ) → Heads later v ≡ Heads s.heap v
    skipped z v = taken s.heap (list_of s.thread c.threads u) (list_of s.thread c.threads v) z

    some_left : Heads s.heap u ≡ 0 → some (Heads later) (u + 1) (c.threads - (u + 1))
        ≡ some (Heads s.heap) u (c.threads - u)
    some_left z =
        let less : c.threads - (u + 1) ≡ c.threads - u - 1 = omega arith in
        some_same (Heads later) (Heads s.heap) (c.threads - (u + 1)) (u + 1)
        (λ v lo up. skipped z v)
        ∙ ap (some (Heads s.heap) (u + 1)) less
        ∙ sym (some_next (Heads s.heap) (c.threads - u) u z (omega arith))

    takes_next : Heads s.heap u ≡ 0 → u + 1 < c.threads → LoneStep c s (At q (greys.Take u))
    takes_next z more =
        let zero_here = eq-eqb (Heads s.heap u) 0 z in
        let next = lt-ltb (u + 1) c.threads more in
        record {
          goes = refl;
          out = rw (zero_here, next) refl;
          knows = rw (zero_here, next) (λ v vl. skipped z v ∙ read u none z v vl);
          moves = rw (zero_here, next) (
            ul,
            inr (inl (
              more,
              same_lone _ (Spot.Take (u + 1))
                  (s.due - s.spent) _ _ refl refl refl (some_left z),
            )),
          );
        }

    takes_last : Heads s.heap u ≡ 0 → c.threads ≤ u + 1 → LoneStep c s (At q (greys.Take u))
    takes_last z less =
        let zero_here = eq-eqb (Heads s.heap u) 0 z in
        let last = le-ltb (u + 1) c.threads less in
        let each : (v : ℕ) → v < c.threads → Heads s.heap v ≡ 0 = λ v vl. read u none z v (omega arith) in
        let nothing = some_none (Heads s.heap) (c.threads - u) u (λ v lo up. each v (omega arith)) in
        record {
          goes = refl;
          out = rw (zero_here, last) refl;
          knows = rw (zero_here, last)
              (low, λ mk. all_none c later s.thread s.low (λ v vl. skipped z v ∙ each v vl));
          moves = rw (zero_here, last) (ul, inr (inr (nothing, mark, (refl, refl, refl))));
        }

    takes_some : (Heads s.heap u ≡ 0 → ⊥) → LoneStep c s (At q (greys.Take u))
    takes_some ne =
        let found = ne_eqb (Heads s.heap u) 0 ne in
        let some_here = some_first (Heads s.heap) (c.threads - u) u (omega arith) (omega arith) in
        record {
          goes = refl;
          out = rw found refl;
          knows = rw found tt;
          moves = rw found (ul, inl (some_here, (refl, refl)));
        }

    takes : LoneStep c s (At p (greys.Take u))
    takes = subst (λ (x : Pass). LoneStep c s (At x (greys.Take u)))
        (λ i. record { thread = sym own i; threads = sym many i; cycle = p.cycle; sweep = p.sweep })
        (elim (cases_eq (Heads s.heap u) 0) [
          | inl z ↦ elim (cases_lt (u + 1) c.threads) [
            | inl more ↦ takes_next z more
            | inr less ↦ takes_last z less
          ]
          | inr ne ↦ takes_some ne
        ])

  -- after payload j was dealt with, on any heap
  deals : (p : Pass) (x j list : ℕ) (l : Lone) (h : Heap) → l.owed ≡ s.due - s.spent
      → j < payloads c.width
      → Dealt (terms_of c s.command) l
      (lone_of c h s.thread (s.due - s.spent) (To p (after_word (payloads c.width) x j list))) j
  deals p x j list l h same jl =
      after_each (λ r. Dealt (terms_of c s.command) l (lone_of c h s.thread (s.due - s.spent) (To p r)) j)
      (payloads c.width) x j list (λ more. inr (more, (refl, sym same)))
      (λ last. (let e : j + 1 ≡ payloads c.width = omega arith in inl (e, (refl, sym same))))

  -- where it leads to a row of the pass
  stays_in : (p : Pass) (h : Heap) (paid x j list : ℕ)
      → (is_out (To p (after_word (payloads c.width) x j list)) ≡ false)
      × LoneKnows c h s.thread s.pass s.due paid (To p (after_word (payloads c.width) x j list))
  stays_in p h paid x j list =
      after_each (λ r. (is_out (To p r) ≡ false) × LoneKnows c h s.thread s.pass s.due paid (To p r))
      (payloads c.width) x j list (λ z. (refl, tt)) (λ z. (refl, tt))

  scans : (p : Pass) (x j list : ℕ) → j < payloads c.width
      → LoneStep c s (At p (greys.ScanWord x j list))
  scans p x j list jl =
      let here = lone_of c s.heap s.thread (s.due - s.spent) (At p (greys.ScanWord x j list)) in
      elim (cases_eq (target (s.heap (PayloadOf x j))) 0) [
        | inl e ↦
            let none = eq-eqb (target (s.heap (PayloadOf x j))) 0 e in
            let in_pass = stays_in p s.heap s.spent x j list in
            record {
              goes = refl;
              out = rw none in_pass.0;
              knows = rw none in_pass.1;
              moves = rw none (jl, inr (deals p x j list here s.heap refl jl));
            }
        | inr ne ↦
            let found = ne_eqb (target (s.heap (PayloadOf x j))) 0 ne in
            record {
              goes = refl;
              out = rw found refl;
              knows = rw found tt;
              moves = rw found (jl, inl (refl, refl));
            }
      ]

  shades : (p : Pass) (x j y list : ℕ) → j < payloads c.width
      → LoneStep c s (At p (greys.Shade x j y list))
  shades p x j y list jl =
      let w = s.heap (ColourOf y) in
      let later = heap_left c s (At p (greys.Shade x j y list)) in
      let in_pass = stays_in p later s.spent x j (shaded_list p.cycle y list w) in
      record {
        goes = refl;
        out = in_pass.0;
        knows = in_pass.1;
        moves = deals p x j (shaded_list p.cycle y list w)
            (lone_of c s.heap s.thread (s.due - s.spent) (At p (greys.Shade x j y list)))
            later refl jl;
      }

  -- the unit is paid
  blackens : (p : Pass) (x list : ℕ) → LoneStep c s (At p (greys.Blacken x list))
  blackens p x list =
      let less : suc (s.due - (s.spent + 1)) ≡ s.due - s.spent = omega arith in
      elim (cases_Bool (eqb list 0)) [
        | inl e ↦ record {
          goes = refl;
          out = rw e refl;
          knows = rw e tt;
          moves = rw e (inl (refl, less));
        }
        | inr e ↦ record {
          goes = refl;
          out = rw e refl;
          knows = rw e tt;
          moves = rw e (inr (refl, less));
        }
      ]

-- by the rows
at_row : (c : Config) (p : Pass) (r : GreyRow) → LoneLaw c (Mark (record { pass = p; row = r }))
at_row c p (greys.Take u) s is alone event known =
    let phase = has_pass c s (Mark (record { pass = p; row = greys.Take u })) is.gating refl in
    let paid = is.pays in
    takes c s (omega arith) p is.part.thread is.fits.0.threads (phase.1 ∙ is.part.mark) u
    is.fits.0.row known
at_row c p (greys.Pop list) s is alone event known =
    record { goes = refl; out = refl; knows = tt; moves = (refl, refl) }
at_row c p (greys.ScanWord x j list) s is alone event known =
    let paid = is.pays in scans c s (omega arith) p x j list is.fits.0.row.1
at_row c p (greys.Shade x j y list) s is alone event known =
    let paid = is.pays in shades c s (omega arith) p x j y list is.fits.0.row.1
at_row c p (greys.Blacken x list) s is alone event known =
    let paid = is.pays in blackens c s (omega arith) p x list
at_row c p (greys.Put list) s is alone event known =
    record { goes = refl; out = refl; knows = tt; moves = (refl, refl) }
at_row c p greys.Scanned s is alone event known =
    absurd (let z : true ≡ false = is.part.going in cc)
at_row c p greys.NothingGrey s is alone event known =
    absurd (let z : true ≡ false = is.part.going in cc)
at_row c p r s is alone event known = absurd (let z : true ≡ false = is.part.scans in cc)

pub mark_lone : (c : Config) (m : GreyState) → LoneLaw c (Mark m)
mark_lone c m = at_row c m.pass m.row
