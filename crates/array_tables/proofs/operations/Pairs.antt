-- Pairs by an infix operator, so that a long tuple of facts needs no nested parentheses.
infixr 4 ◌▸◌
abbrev pub ◌▸◌ : {A B : Type 0} → A → B → A × B
a ▸ b = (a, b)
