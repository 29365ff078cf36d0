-- What a call of the lexer's iterator gives. Assumes nothing.
use Rattle.std.specs.Prelude.{◌≡◌, ℕ, ◌+◌, ◌<◌, ◌≤◌, length, drop, Some, None, Ok, Err, Option, Result}
use Rattle.token.specs.declared.fault.ReadFault.{ReadFault}
use Rattle.token.specs.declared.fault.ReadFault.TheVariants.{Stray}
use Rattle.token.specs.declared.piece.Piece.{Piece}
use Rattle.token.specs.declared.pieces.Pieces.{Pieces}
use Rattle.token.specs.Items.{item_of}
use Rattle.token.specs.Views.{wrong, stretch_view, parted}

-- the piece that begins at its place, and it goes on behind that; the fault that none begins there; or the end of the text
abbrev pub GivesPiece : Pieces → Option (Result (ℕ × Piece) ReadFault) → Pieces → Type 0
GivesPiece old None new = (length old.text.now ≤ old.at) × (new ≡ old)
GivesPiece old (Some (Err fault)) new = (fault ≡ Stray old.at) × (old.at < length old.text.now) × (wrong ≡ parted (item_of (drop old.at old.text.now)))
GivesPiece old (Some (Ok found)) new =
    (found.0 ≡ old.at) × (stretch_view found.1.token found.1.length ≡ parted (item_of (drop old.at old.text.now))) × (new.at ≡ old.at + found.1.length) × (new.text.now ≡ old.text.now)
