use Rattle.std.proofs.Common.{arith}
use Rattle.rtheap_core.proofs.OwnerWords.{ran, few_serials, narrow}
use Rattle.heap_system.proofs.Lemmas.{job_of_text}
use Rattle.rtheap_core.proofs.laws.texts_are_lives.Goals as goal

pub returns-clause-lives : goal.returns-clause-lives
returns-clause-lives c job is plan = job_of_text job.config job.traces is plan

pub returns-clause-owners : goal.returns-clause-owners
returns-clause-owners c job is plan turns r by =
    let shown = c.words_show_the_order.ensures.words job.config r (ran job is plan turns r by) in
    record {
      serials = few_serials job is plan turns r by;
      words = λ a o kept small. narrow c.words_read_back.ensures.owner c.wide_words_extend.ensures.word
          _ a.thread a.serial o (shown.written.blocks a o kept small).owned (shown.numbered.threads a kept)
          (few_serials job is plan turns r by a (shown.names a kept))
          (let most = shown.numbered.ordinals a kept in omega (arith, most, small));
    }
