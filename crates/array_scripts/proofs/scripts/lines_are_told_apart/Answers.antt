use Rattle.std.proofs.Common.{IsTrue}
use Rattle.array_scripts.proofs.scripts.ScriptOrBadLine.{told_apart, never_both, scripts_are_one}
use Rattle.array_scripts.proofs.scripts.lines_are_told_apart.Goals as goal

pub returns-clause-either : goal.returns-clause-either
returns-clause-either c = λ lang is_header fits lines reads.
    told_apart lang (λ h. IsTrue (is_header h)) (λ h s op. IsTrue (fits h s op)) reads lines

pub returns-clause-apart : goal.returns-clause-apart
returns-clause-apart c = λ lang is_header fits lines h scripts n reads.
    never_both lang (λ h. IsTrue (is_header h)) (λ h s op. IsTrue (fits h s op)) reads lines h
    scripts n

pub returns-clause-one : goal.returns-clause-one
returns-clause-one c = λ lang is_header fits lines h k scripts others reads.
    scripts_are_one lang (λ h. IsTrue (is_header h)) (λ h s op. IsTrue (fits h s op)) reads lines h
    k scripts others
