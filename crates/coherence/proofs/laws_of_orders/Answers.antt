use Rattle.coherence.proofs.Pairing.{product_law, pairing_law, counted_law}
use Rattle.coherence.proofs.Alike.{alike_law}
use Rattle.coherence.proofs.laws_of_orders.Goals as goal

pub returns : goal.returns
returns c = record { product = product_law; pairing = pairing_law; counted = counted_law; alike = alike_law }
