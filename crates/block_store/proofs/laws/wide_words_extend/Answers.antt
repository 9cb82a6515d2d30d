use Rattle.block_store.proofs.WideWords.{wide-code, wide_reads, same_word, same_owner}
use Rattle.block_store.proofs.laws.wide_words_extend.Goals as goal

pub returns : goal.returns
returns c = record { back = wide-code; written = wide_reads; word = same_word; owner = same_owner }
