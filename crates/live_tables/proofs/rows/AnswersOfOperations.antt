-- The answers of operations, one after the other.
use Rattle.std.proofs.Common.{◌≡◌, refl, arith, sym, ap, ◌∙◌, List, [], ◌∷◌, ◌++◌, length, map, take, drop}
use Rattle.std.specs.Prelude.{flat_map}
use Rattle.std.proofs.lemmas.List.{append_assoc, append-nil, length-append, length-take, length-drop, map-append, take-append-drop}
use Rattle.never_heap.specs.declared.Reply.{Reply}
use Rattle.array_tables.specs.operations.Linearizations.{answers_told, seen_next, told_next}
use Rattle.live_tables.specs.rows.Rows.{Rows, answer_told, answers_of, commands_of}
use Rattle.live_tables.specs.rows.Lawful.{Lawful}

module _ {Op Row Answer S : Type 0} (a : Rows Op Row Answer S) where
  pub rows_more : (xs ys : List Op)
      → flat_map a.rows_of (xs ++ ys) ≡ flat_map a.rows_of xs ++ flat_map a.rows_of ys
  rows_more [] ys = refl
  rows_more (x ∷ xs) ys =
      ap (λ l. a.rows_of x ++ l) (rows_more xs ys)
      ∙ sym (append_assoc (a.rows_of x) (flat_map a.rows_of xs) (flat_map a.rows_of ys))

  pub commands_more : (xs ys : List Op)
      → commands_of a (xs ++ ys) ≡ commands_of a xs ++ commands_of a ys
  commands_more xs ys =
      ap (map a.command_at) (rows_more xs ys)
      ∙ map-append a.command_at (flat_map a.rows_of xs) (flat_map a.rows_of ys)

  -- the answers of a script that has begun
  pub told_within : (rows more : List Row) (seen rs : List Reply) → length rs ≡ length rows
      → answers_told a.ends seen (rows ++ more) rs ≡ answers_told a.ends seen rows rs
  told_within [] [] seen [] same = refl
  told_within [] (row ∷ more) seen [] same = refl
  told_within [] more seen (r ∷ rs) same = absurd (omega arith)
  told_within (row ∷ rows) more seen [] same = absurd (omega arith)
  told_within (row ∷ rows) more seen (r ∷ rs) same =
      ap (λ l. told_next (a.ends row) (seen ++ r ∷ []) ++ l)
      (told_within rows more (seen_next (a.ends row) (seen ++ r ∷ [])) rs (omega arith))

  module _ (law : Lawful a) where
    -- the replies to an operation, and those to the ones after it
    front_long : (op : Op) (ops : List Op) (rs : List Reply)
        → length rs ≡ length (flat_map a.rows_of (op ∷ ops))
        → length (take (length (a.rows_of op)) rs) ≡ length (a.rows_of op)
    front_long op ops rs same = omega (
      arith,
      same,
      length-take (length (a.rows_of op)) rs,
      length-append (a.rows_of op) (flat_map a.rows_of ops),
    )

    back_long : (op : Op) (ops : List Op) (rs : List Reply)
        → length rs ≡ length (flat_map a.rows_of (op ∷ ops))
        → length (drop (length (a.rows_of op)) rs) ≡ length (flat_map a.rows_of ops)
    back_long op ops rs same = omega (
      arith,
      same,
      length-drop (length (a.rows_of op)) rs,
      length-append (a.rows_of op) (flat_map a.rows_of ops),
    )

    -- the first operation's answer, and then those of the others and of other rows
    told_first : (op : Op) (ops : List Op) (rows : List Row) (rs more : List Reply)
        → length rs ≡ length (flat_map a.rows_of (op ∷ ops))
        → answers_told a.ends [] (flat_map a.rows_of (op ∷ ops) ++ rows) (rs ++ more)
        ≡ answer_told a op (take (length (a.rows_of op)) rs)
        ∷ answers_told a.ends [] (flat_map a.rows_of ops ++ rows)
        (drop (length (a.rows_of op)) rs ++ more)
    told_first op ops rows rs more same =
        let front : List Reply = take (length (a.rows_of op)) rs in
        let back : List Reply = drop (length (a.rows_of op)) rs in
        ap (λ l. answers_told a.ends [] l (rs ++ more))
        (append_assoc (a.rows_of op) (flat_map a.rows_of ops) rows)
        ∙ ap (λ l. answers_told a.ends [] (a.rows_of op ++ (flat_map a.rows_of ops ++ rows)) (l ++ more))
        (sym (take-append-drop (length (a.rows_of op)) rs))
        ∙ ap (λ l. answers_told a.ends [] (a.rows_of op ++ (flat_map a.rows_of ops ++ rows)) l)
        (append_assoc front back more)
        ∙ law.told op (flat_map a.rows_of ops ++ rows) front (back ++ more)
        (front_long op ops rs same)

    -- the same with no other rows
    one_more : (op : Op) (ops : List Op) (rs : List Reply)
        → length rs ≡ length (flat_map a.rows_of (op ∷ ops))
        → answers_of a (op ∷ ops) rs
        ≡ answer_told a op (take (length (a.rows_of op)) rs)
        ∷ answers_of a ops (drop (length (a.rows_of op)) rs)
    one_more op ops rs same =
        let back : List Reply = drop (length (a.rows_of op)) rs in
        (λ i. answers_told a.ends [] (sym (append-nil (flat_map a.rows_of (op ∷ ops))) i)
        (sym (append-nil rs) i))
        ∙ told_first op ops [] rs [] same
        ∙ (λ i. answer_told a op (take (length (a.rows_of op)) rs)
        ∷ answers_told a.ends [] (append-nil (flat_map a.rows_of ops) i) (append-nil back i))

    pub told_more : (ops : List Op) (rows : List Row) (rs more : List Reply)
        → length rs ≡ length (flat_map a.rows_of ops)
        → answers_told a.ends [] (flat_map a.rows_of ops ++ rows) (rs ++ more)
        ≡ answers_of a ops rs ++ answers_told a.ends [] rows more
    told_more [] rows [] more same = refl
    told_more [] rows (r ∷ rs) more same = absurd (omega arith)
    told_more (op ∷ ops) rows rs more same =
        let front : List Reply = take (length (a.rows_of op)) rs in
        let back : List Reply = drop (length (a.rows_of op)) rs in
        told_first op ops rows rs more same
        ∙ ap (λ l. answer_told a op front ∷ l)
        (told_more ops rows back more (back_long op ops rs same))
        ∙ ap (λ l. l ++ answers_told a.ends [] rows more) (sym (one_more op ops rs same))

    pub as_many_answers : (ops : List Op) (rs : List Reply)
        → length rs ≡ length (flat_map a.rows_of ops) → length (answers_of a ops rs) ≡ length ops
    as_many_answers [] rs same = refl
    as_many_answers (op ∷ ops) rs same = omega (
      arith,
      ap length (one_more op ops rs same),
      as_many_answers ops (drop (length (a.rows_of op)) rs) (back_long op ops rs same),
    )

    -- one operation's answer more
    pub answers_more : (ops : List Op) (op : Op) (rs more : List Reply)
        → length rs ≡ length (flat_map a.rows_of ops) → length more ≡ length (a.rows_of op)
        → answers_of a (ops ++ op ∷ []) (rs ++ more)
        ≡ answers_of a ops rs ++ answer_told a op more ∷ []
    answers_more ops op rs more same long =
        ap (λ rows. answers_told a.ends [] rows (rs ++ more)) (rows_more ops (op ∷ []))
        ∙ told_more ops (flat_map a.rows_of (op ∷ [])) rs more same
        ∙ ap (λ l. answers_of a ops rs ++ answers_told a.ends [] (a.rows_of op ++ []) l)
        (sym (append-nil more))
        ∙ ap (λ l. answers_of a ops rs ++ l) (law.told op [] more [] long)
