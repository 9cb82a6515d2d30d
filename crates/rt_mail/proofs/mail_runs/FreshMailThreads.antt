-- The mail threads of a mail board before the first turn.
use Rattle.std.proofs.Common.{ℕ, suc, ◌+◌, ◌≡◌, List, [], ◌∷◌, ◌++◌, length, map, get_or, arith, subst, refl, sym, ap, ◌∙◌}
use Rattle.std.specs.Prelude.{remove}
use Rattle.std.specs.List.{range_with_len}
use Rattle.std.proofs.lemmas.List.{append_assoc, length-map}
use Rattle.std.proofs.lemmas.List.FromFn.{length-range_with_len}
use Rattle.never_heap.specs.declared.Command.{Command}
use Rattle.block_store.specs.declared.Config.{Config}
use Rattle.atom_board.specs.Mutators.{BoardState, MutatorState, AreInOrder, AreFresh}
use Rattle.atomic_table.specs.Seated.{TableId}
use Rattle.rt_mail.specs.mail_post.PostStates.{SenderState, fresh_sender, fresh_senders}
use Rattle.rt_mail.specs.said_numbers.Said.{numbers_said}
use Rattle.rt_mail.specs.declared.mail_runs.mail_board.MailBoard.{MailBoard}
use Rattle.rt_mail.specs.declared.mail_runs.mail_thread.MailThread.{MailThread}
use Rattle.rt_mail.specs.mail_runs.MailThreads.{Each, IsMailThread, AreMailThreads, zipped}
use Rattle.rt_mail.proofs.mail_runs.EachInOrder.{each_by_index}

-- one more pair is made
pub pair_made : (done all : List MailThread) (m : MutatorState) (ms : List MutatorState)
    (ss rest : List SenderState) (s : SenderState)
    → done ++ zipped (m ∷ ms) ss ≡ all → length ss ≡ suc (length ms) → s ≡ get_or ss 0 s
    → rest ≡ remove ss 0
    → (done ++ record { mutator = m; sender = s } ∷ []) ++ zipped ms rest ≡ all
pair_made done all m ms [] rest s whole long is are = absurd (omega arith)
pair_made done all m ms (x ∷ xs) rest s whole long is are =
    append_assoc done (record { mutator = m; sender = s } ∷ []) (zipped ms rest)
    ∙ ap (λ (us : List SenderState). done ++ record { mutator = m; sender = s } ∷ zipped ms us) are
    ∙ ap (λ (u : SenderState). done ++ record { mutator = m; sender = u } ∷ zipped ms xs) is
    ∙ whole

-- this mutator of a mail board has said nothing yet
pub record IsSilent (o : MailBoard) (t : ℕ) (m : MutatorState) : Type 0 where
  pub board : m.board ≡ o.board.id
  pub thread : m.local.thread ≡ t
  pub log : m.local.log ≡ []

speakers_from : (o : MailBoard) (t : ℕ) (ms : List MutatorState) → Each (IsSilent o) t ms
    → Each (IsMailThread o) t (zipped ms (map (fresh_sender o.post.id) (range_with_len t (length ms))))
speakers_from o t [] e = tt
speakers_from o t (m ∷ ms) e = (
  record {
    board = e.0.board;
    thread = e.0.thread;
    post = refl;
    number = refl;
    sent = sym (ap numbers_said e.0.log);
  },
  speakers_from o (t + 1) ms e.1,
)

zipped_count : (ms : List MutatorState) (ss : List SenderState) → length ms ≡ length ss
    → length (zipped ms ss) ≡ length ms
zipped_count [] ss e = refl
zipped_count (m ∷ ms) [] e = absurd (omega arith)
zipped_count (m ∷ ms) (s ∷ ss) e = ap suc (zipped_count ms ss (omega arith))

-- there are as many of both
pub ready_count : (b : BoardState) (ms : List MutatorState) (ss : List SenderState) (n : ℕ)
    (post : TableId) → AreInOrder b ms → ss ≡ fresh_senders post n → n ≡ b.config.threads
    → length ms ≡ length ss
ready_count b ms ss n post order are same =
    order.count ∙ sym same ∙ sym (length-range_with_len 0 n)
    ∙ sym (length-map (range_with_len 0 n) (fresh_sender post)) ∙ sym (ap length are)

-- a new board's mutators and a new post's senders
pub speakers_ready : (o : MailBoard) (c : Config) (traces : List (List Command))
    (ms : List MutatorState) (ss : List SenderState) → AreInOrder o.board ms
    → AreFresh c traces ms → ss ≡ fresh_senders o.post.id o.board.config.threads
    → AreMailThreads o (zipped ms ss)
speakers_ready o c traces ms ss order fresh are =
    let silent : Each (IsSilent o) 0 ms = each_by_index (IsSilent o) 0 ms (λ i d low.
    (let same : i ≡ 0 + i = omega arith in record {
      board = (order.each i d low).0;
      thread = (order.each i d low).1 ∙ same;
      log = (fresh i d low).log;
    })) in
    let own : ss ≡ map (fresh_sender o.post.id) (range_with_len 0 (length ms)) =
    are ∙ ap (fresh_senders o.post.id) (sym order.count) in
    let long = ready_count o.board ms ss _ o.post.id order are refl in (
      subst (λ us. Each (IsMailThread o) 0 (zipped ms us)) (sym own) (speakers_from o 0 ms silent),
      zipped_count ms ss long ∙ order.count,
    )
