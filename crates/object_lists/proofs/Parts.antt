-- What is in a part of a block.
use Rattle.std.proofs.Common.{◌≡◌, ℕ, Some, None, ap}
use Rattle.object_lists.specs.Parts.{Part, Link, Field, Blank, link_in}

-- a part that links is a link
pub is_link : (p : Part) (q : ℕ) → link_in p ≡ Some q → p ≡ Link q
is_link (Link o) q e = let same : o ≡ q = cc in ap Link same
is_link (Field i) q e = absurd (let z : None ≡ Some q = e in cc)
is_link Blank q e = absurd (let z : None ≡ Some q = e in cc)
