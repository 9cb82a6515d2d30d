use Rattle.std.proofs.Common.{◌≡◌, length, refl, ◌∙◌, arith}
use Rattle.std.proofs.lemmas.List.{get_or_default}
use Rattle.saved_heap.specs.Walks.{State, number_at, state_of}
use Rattle.saved_heap.proofs.Walking.{number_kept, number_new}
use Rattle.saved_heap.proofs.walk.Found.number.Goals as goal

pub returns-then-number-gt0 : goal.returns-then-number-gt0
returns-then-number-gt0 c =
    let grown : State = record { found = c.args.self.now.objects.items; numbers = c.grow.new.numbers.items } in
    let read : c.index-number.result.now ≡ number_at grown c.args.seen.block = c.index-number.ensures ∙ get_or_default grown.numbers c.args.seen.block c.index-number.result.now 0 c.in_ok-grow.ensures.long in
    number_kept (state_of c.args.self.now) grown c.args.seen c.index-number.result.now refl c.grow.ensures.same read c.if-number-gt0.true

pub returns : goal.returns
returns c =
    let grown : State = record { found = c.args.self.now.objects.items; numbers = c.grow.new.numbers.items } in
    let read : c.index-number.result.now ≡ number_at grown c.args.seen.block = c.index-number.ensures ∙ get_or_default grown.numbers c.args.seen.block c.index-number.result.now 0 c.in_ok-grow.ensures.long in
    let less = c.if-number-gt0.false in
    let long : c.len.result ≡ length c.note.new.self.objects.items = omega (arith, c.len.ensures) in
    let none : number_at grown c.args.seen.block ≡ 0 = omega (arith, less, read) in
    number_new (state_of c.args.self.now) grown (state_of c.note.new.self) c.args.seen c.len.result refl c.grow.ensures.same
    none c.in_ok-grow.ensures.long (λ i. record { found = c.in_ok-note.ensures.objects i; numbers = c.in_ok-note.ensures.numbers i }) long
