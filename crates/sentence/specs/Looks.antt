-- What comes first among sorts, as the program looks at it. Assumes nothing.
use Rattle.std.specs.Prelude.{◌≡◌, ℕ, ◌+◌, Bool, false, cond, List, [], ◌∷◌, Some, None, Option, drop, is_some, nat_le}
use Rattle.sentence.specs.declared.sort.Sort.{Sort}
use Rattle.sentence.specs.Trees.{Word, Post, closure, Infix, product, rank}
use Rattle.sentence.specs.Roles.{Start, joins, ends, Speech, words, Role, starts, goes, speaks, role}

-- the role of the first sort
abbrev pub first_role : List Sort → Option Role
first_role [] = None
first_role (s ∷ rest) = Some (role s)

-- what begins an atom
abbrev pub role_start : Option Role → Option Start
role_start (Some (starts s)) = Some s
role_start r = None

-- a word of statements comes
abbrev pub role_speech : Option Role → Option Speech
role_speech (Some (speaks s)) = Some s
role_speech r = None

-- the word of a check comes
abbrev pub role_word : Option Role → Option Word
role_word (Some (speaks (words w))) = Some w
role_word r = None

-- the infix sign that comes; a star is one if an atom begins behind it
abbrev pub role_sign : Option Role → Bool → Option Infix
role_sign (Some (goes (joins product))) false = None
role_sign (Some (goes (joins i))) b = Some i
role_sign r b = None

-- the sign behind an operand that comes; a star is one if no atom begins behind it
abbrev pub role_post : Option Role → Bool → Option Post
role_post (Some (goes (joins product))) false = Some closure
role_post (Some (goes (ends q))) b = Some q
role_post r b = None

-- an atom begins
abbrev pub begins_atom : List Sort → Bool
begins_atom ts = is_some (role_start (first_role ts))

-- the infix sign at a place, and the sign behind an operand there
abbrev pub sign_at : List Sort → ℕ → Option Infix
sign_at ts at = role_sign (first_role (drop at ts)) (begins_atom (drop (at + 1) ts))

abbrev pub post_at : List Sort → ℕ → Option Post
post_at ts at = role_post (first_role (drop at ts)) (begins_atom (drop (at + 1) ts))

-- the infix sign that comes, if it binds at least so tightly
abbrev pub sign_above : ℕ → Option Infix → Option Infix
sign_above n None = None
sign_above n (Some i) = cond (nat_le n (rank i)) (Some i) None

-- a sort of this role stands at a place
abbrev pub StandsAt : List Sort → ℕ → Role → Type 0
StandsAt ts at r = first_role (drop at ts) ≡ Some r
