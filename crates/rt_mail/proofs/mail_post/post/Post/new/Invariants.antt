use Rattle.std.proofs.Common.{◌≡◌, map, []}
use Rattle.std.specs.List.{range_with_len}
use Rattle.crossbeam_queue.specs.Passes.{view, IsPassOf}
use Rattle.rt_mail.specs.declared.mail_post.views.View.TheVariants.{Taking}
use Rattle.rt_mail.specs.mail_post.PostStates.{fresh_senders}
use Rattle.rt_mail.specs.mail_post.NumberRows.{rows_of}
use Rattle.rt_mail.proofs.mail_post.post.Post.new.Given as goal

abbrev pub invariant-loop-thread : goal.invariant-loop-thread
invariant-loop-thread l = IsPassOf l.line l.pass × (view l.pass ≡ Taking l.thread [] [])
    × (l.ends.items ≡ fresh_senders l.line.table.shared.table_id l.thread)
    × (rows_of l.rows.items ≡ map (λ t. []) (range_with_len 0 l.thread))
