use Rattle.std.proofs.Common.{inr, ◌≡◌, ◌+◌, ◌*◌, ◌∙◌, ap, arith}
use Rattle.heap_structures.specs.Alarms.{stands}
use Rattle.heap_structures.proofs.cell_arrays.Answered.{room_less}
use Rattle.heap_structures.proofs.cell_arrays.Chained.{from_err}
use Rattle.heap_structures.proofs.trends.TrendCalls.{low, one_more, room_asked, some}
use Rattle.heap_structures.proofs.trends.TrendHeaps.{state}
use Rattle.heap_structures.proofs.trends.TrendLists.{left, not_left, room_left}
use Rattle.heap_structures.proofs.trend.Trend.push.Goals as goal

pub returns-in_err-record : goal.returns-in_err-record
returns-in_err-record c = λ k n most xs is.
    let t = c.args.self.now in
    let room = room_asked t k n most xs is c.from.result (c.from.ensures ∙ c.size.ensures.size)
    c.in_ok-admit.ensures.admitted.1 in
    let why = c.in_err-record.ensures.lays (state is.lays)
    (room_less (3 * n + 7) 4 t.heap (omega arith) room) in
    from_err c.from_residual-in_err-record.result c.in_err-record.field-0.0 _ _
    c.from_residual-in_err-record.ensures.1 (why.0, why.1, inr why.2)

pub returns-in_err-clear_oldest : goal.returns-in_err-clear_oldest
returns-in_err-clear_oldest c = λ k n most xs is.
    let t = c.args.self.now in
    let room = room_asked t k n most xs is c.from.result (c.from.ensures ∙ c.size.ensures.size)
    c.in_ok-admit.ensures.admitted.1 in
    let one = c.in_ok-record.ensures.lays (state is.lays)
    (room_less (3 * n + 7) 4 t.heap (omega arith) room) in
    let now = one.0.1 (2 * n + 1)
    (room_less (3 * n + 7) (4 + (2 * n + 1)) t.heap (omega arith) room) in
    absurd (c.in_err-clear_oldest.ensures.lays (state one.0.0) now
    (omega (arith, c.record.ensures.pushed, low t k n most xs is (3 * n + 7) room)))

pub returns-in_err-raise_newest : goal.returns-in_err-raise_newest
returns-in_err-raise_newest c = λ k n most xs is.
    let t = c.args.self.now in
    let i = c.record.new.self.pushed in
    let given : i ≡ _ = c.record.ensures.pushed ∙ is.pushed in
    let room = room_asked t k n most xs is c.from.result (c.from.ensures ∙ c.size.ensures.size)
    c.in_ok-admit.ensures.admitted.1 in
    let one = c.in_ok-record.ensures.lays (state is.lays)
    (room_less (3 * n + 7) 4 t.heap (omega arith) room) in
    let now = one.0.1 (3 * n + 3)
    (room_less (3 * n + 7) (4 + (3 * n + 3)) t.heap (omega arith) room) in
    let few = low t k n most xs is (3 * n + 7) room in
    let two = c.in_ok-clear_oldest.ensures.lays (state one.0.0)
    (room_less (3 * n + 3) (2 * n + 1) c.record.new.self.heap (omega arith) now)
    (omega (arith, c.record.ensures.pushed, few)) in
    let then = two.1 (n + 2)
    (room_less (3 * n + 3) ((2 * n + 1) + (n + 2)) c.record.new.self.heap (omega arith) now) in
    absurd (c.in_err-raise_newest.ensures.lays (state two.0) then
    (omega (arith, c.clear_oldest.ensures.pushed, c.record.ensures.pushed, few))
    (ap (λ q. stands q (left n (some t k n most xs is) xs i given)) c.clear_oldest.ensures.pushed
    ∙ not_left n (some t k n most xs is) xs i given)
    (room_left n (some t k n most xs is) xs i given))

pub returns : goal.returns
returns c = λ k n most xs is.
    let t = c.args.self.now in
    let i = c.record.new.self.pushed in
    let given : i ≡ _ = c.record.ensures.pushed ∙ is.pushed in
    let room = room_asked t k n most xs is c.from.result (c.from.ensures ∙ c.size.ensures.size)
    c.in_ok-admit.ensures.admitted.1 in
    let one = c.in_ok-record.ensures.lays (state is.lays)
    (room_less (3 * n + 7) 4 t.heap (omega arith) room) in
    let now = one.0.1 (3 * n + 3)
    (room_less (3 * n + 7) (4 + (3 * n + 3)) t.heap (omega arith) room) in
    let few = low t k n most xs is (3 * n + 7) room in
    let two = c.in_ok-clear_oldest.ensures.lays (state one.0.0)
    (room_less (3 * n + 3) (2 * n + 1) c.record.new.self.heap (omega arith) now)
    (omega (arith, c.record.ensures.pushed, few)) in
    let then = two.1 (n + 2)
    (room_less (3 * n + 3) ((2 * n + 1) + (n + 2)) c.record.new.self.heap (omega arith) now) in
    let three = c.in_ok-raise_newest.ensures.lays (state two.0) then
    (omega (arith, c.clear_oldest.ensures.pushed, c.record.ensures.pushed, few))
    (ap (λ q. stands q (left n (some t k n most xs is) xs i given)) c.clear_oldest.ensures.pushed
    ∙ not_left n (some t k n most xs is) xs i given)
    (room_left n (some t k n most xs is) xs i given) in (
      one_more t k n most xs is c.args.sample c.raise_newest.new.self i
          c.clear_oldest.new.self.pushed c.saturating_add-self.result given c.clear_oldest.ensures.pushed
          (omega (
            arith,
            c.saturating_add-self.ensures,
            c.raise_newest.ensures.pushed,
            c.clear_oldest.ensures.pushed,
            c.record.ensures.pushed,
            few,
          ))
          three,
      room,
      one.1,
    )
