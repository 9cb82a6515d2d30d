use Rattle.std.proofs.Common.{◌≡◌, arith, false, rules}
use Rattle.saved_heap.specs.heap_pictures.Pictures.{content_of}
use Rattle.saved_heap.proofs.heap_pictures.Turns.{count_is}
use Rattle.saved_heap.proofs.saves.save.Goals as goal

pub returns-then-not-some_is_enough-clause-refused :
    goal.returns-then-not-some_is_enough-clause-refused
returns-then-not-some_is_enough-clause-refused c =
    let not : c.some_is_enough.result ≡ false = search rules in (
      content_of c.in_ok-picture.picture,
      c.in_ok-picture.ensures.picture,
      c.in_ok-picture.ensures.order,
      (let n = count_is c.in_ok-picture.picture in omega (arith, c.len.ensures, n)),
      c.some_is_enough.ensures.no not,
    )
