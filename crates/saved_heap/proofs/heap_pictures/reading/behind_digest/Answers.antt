use Rattle.saved_heap.proofs.heap_pictures.ReadAgain.{digest_bad, digest_ok}
use Rattle.saved_heap.proofs.heap_pictures.reading.behind_digest.Goals as goal

pub returns-then-is_digest : goal.returns-then-is_digest
returns-then-is_digest c = digest_ok c.args.bytes.now c.split_at.result.0.now c.split_at.result.1.now c.is_digest.result c.split_at.ensures.front c.split_at.ensures.back c.is_digest.ensures c.if-is_digest.true

pub returns-else-is_digest : goal.returns-else-is_digest
returns-else-is_digest c = digest_bad c.args.bytes.now c.split_at.result.0.now c.split_at.result.1.now c.is_digest.result c.split_at.ensures.front c.split_at.ensures.back c.is_digest.ensures c.if-is_digest.false
