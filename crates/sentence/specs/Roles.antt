-- Roles: what a sort can do where it stands. Assumes nothing.
use Rattle.sentence.specs.declared.sort.Sort.{Sort}
use Rattle.sentence.specs.declared.sort.Sort.TheVariants.{Name, Title, Let, Rec, And, Acyclic, Irreflexive, Empty, Flag, As, Universe, NoPairs, NoEvents, Inverse, Open, Close, OpenSquare, CloseSquare, Bar, Semicolon, Backslash, Ampersand, Star, Tilde, Plus, Question, Equals}
use Rattle.sentence.specs.Trees.{name, universe, no_pairs, no_events, round, square, plus, question, inverse, bar, semicolon, backslash, ampersand, product, acyclic, irreflexive, empty}
pub use Rattle.sentence.specs.declared.role.Start.{Start}
pub use Rattle.sentence.specs.declared.role.Start.TheVariants.{Leaf as leaf, Opens as opens}
pub use Rattle.sentence.specs.declared.role.Go.{Go}
pub use Rattle.sentence.specs.declared.role.Go.TheVariants.{Closes as closes, Joins as joins, Ends as ends}
pub use Rattle.sentence.specs.declared.role.Speech.{Speech}
pub use Rattle.sentence.specs.declared.role.Speech.TheVariants.{Titles as titles, Lets as lets, Recs as recs, Ands as ands, Flags as flags, Labels as labels, Equals as equals, Words as words}
pub use Rattle.sentence.specs.declared.role.Role.{Role}
pub use Rattle.sentence.specs.declared.role.Role.TheVariants.{Starts as starts, Goes as goes, Complements as complements, Speaks as speaks}

-- the role of each sort; a star is told apart later
abbrev pub role : Sort → Role
role Name = starts (leaf name)
role Title = speaks titles
role Let = speaks lets
role Rec = speaks recs
role And = speaks ands
role Acyclic = speaks (words acyclic)
role Irreflexive = speaks (words irreflexive)
role Empty = speaks (words empty)
role Flag = speaks flags
role As = speaks labels
role Universe = starts (leaf universe)
role NoPairs = starts (leaf no_pairs)
role NoEvents = starts (leaf no_events)
role Inverse = goes (ends inverse)
role Open = starts (opens round)
role Close = goes (closes round)
role OpenSquare = starts (opens square)
role CloseSquare = goes (closes square)
role Bar = goes (joins bar)
role Semicolon = goes (joins semicolon)
role Backslash = goes (joins backslash)
role Ampersand = goes (joins ampersand)
role Star = goes (joins product)
role Tilde = complements
role Plus = goes (ends plus)
role Question = goes (ends question)
role Equals = speaks equals
