-- What refuses a source in both cases refuses it in each.
use Rattle.std.specs.Prelude.{ℕ, Bool, List}
use Rattle.front_end.specs.Front.{IsRefused, IsRefusedBy}
use Rattle.front_end.specs.declared.refusal.Refusal.{Refusal}
use Rattle.front_end.specs.declared.refusal.Refusal.TheVariants.{Diagnostic, Limit, NoMemory}

pub refused_by : (fold : Bool) (text : List ℕ) (r : Refusal) → IsRefused text r → IsRefusedBy fold text r
refused_by fold text (Diagnostic code at) h = h fold
refused_by fold text (Limit code at bytes) h = h.1 fold
refused_by fold text NoMemory h = tt
