-- Letters, by sender.
use Rattle.std.specs.Prelude.{ℕ, ◌==◌, if◌then◌else◌, List, [], ◌∷◌}
use Rattle.rt_mail.specs.declared.mail_post.views.Letter.{Letter}
use Rattle.rt_mail.specs.declared.mail_post.views.Whole.{Whole}

-- the numbers of the letters of thread t, in order
abbrev pub numbers_of : ℕ → List Letter → List ℕ
numbers_of t [] = []
numbers_of t (x ∷ xs) = if x.thread == t then x.number ∷ numbers_of t xs else numbers_of t xs

-- what thread t sent in all, where it is among those that were gathered
abbrev pub sent_by : ℕ → List Whole → List ℕ
sent_by t [] = []
sent_by t (w ∷ ws) = if w.thread == t then w.sent else sent_by t ws
