use Rattle.std.proofs.Common.{◌≡◌, ◌++◌, ◌∷◌, [], ◌∙◌, rules, true, false, ap}
use Rattle.never_heap.specs.Histories.{is_full}
use Rattle.saved_heap.specs.Renewals.{Copying}
use Rattle.saved_heap.proofs.Followed.{followed_more, noted_full, noted_other}
use Rattle.saved_heap.proofs.renewal.Renewal.follow.Goals as goal

pub returns-then-matches-clause-followed : goal.returns-then-matches-clause-followed
returns-then-matches-clause-followed c = λ from old new p f one.
    let full : is_full c.args.reply ≡ true = search rules in
    followed_more from old new p c.args.self.now.commands c.args.self.now.commands c.args.command
    c.args.reply (noted_full c.args.self.now.commands c.args.command c.args.reply full) f one

pub returns-clause-followed : goal.returns-clause-followed
returns-clause-followed c = λ from old new p f one.
    let none : is_full c.args.reply ≡ false = search rules in
    followed_more from old new p c.args.self.now.commands c.push_reserved.new.self.items
    c.args.command c.args.reply
    (noted_other c.args.self.now.commands c.push_reserved.new.self.items c.args.command
    c.args.reply none
    (c.push_reserved.ensures.items
    ∙ ap (λ (s : Copying). s.commands ++ c.args.command ∷ []) c.self.view_is)) f one
