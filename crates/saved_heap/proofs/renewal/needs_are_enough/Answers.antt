use Rattle.saved_heap.proofs.Enough.{Heaps, Lives, enough}
use Rattle.saved_heap.proofs.renewal.needs_are_enough.Goals as goal

pub returns : goal.returns
returns c = λ d p f is cannot.
    let lives : Lives = record {
      grow = c.live_grows.ensures;
      opening = c.opening_blocks_are_live.ensures;
      rate = c.one_rate.ensures.small;
    } in
    let heaps : Heaps = record {
      legal = c.histories_are_right.ensures.legal;
      licensed = c.histories_are_right.ensures.licensed;
      small = c.small_histories_are_shown.ensures;
      fits = c.lives_add_up.ensures.fits;
    } in
    enough lives heaps d p is f cannot
