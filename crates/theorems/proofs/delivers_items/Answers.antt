use Rattle.interface.proofs.Deliveries.DeliveryLaws.{delivers_items}
use Rattle.theorems.proofs.delivers_items.Goals as goal

pub returns : goal.returns
returns c = delivers_items
