-- What reading a demo answers is a right answer.
use Rattle.std.proofs.Common.{◌≡◌, ◌⊎◌, inl, inr, ℕ, List, Err, refl}
use Rattle.lmp_codec.specs.Demo.{IsFault}
use Rattle.lmp_codec.specs.declared.fault.DemoFault.{DemoFault}
use Rattle.lmp_codec.specs.declared.fault.DemoFault.TheVariants.{DemoVersion, DemoHead, DemoCut, DemoLong, Memory}
use Rattle.dsda_cli.specs.Meaning.{as_demo}
use Rattle.dsda_cli.specs.Inside.{Gives, stop_of_demo}
use Rattle.dsda_cli.specs.declared.product.Stop.{Stop}

stops_as : (text : List ℕ) (fault : DemoFault) → IsFault text fault → Gives (λ demo. demo) (Err (stop_of_demo fault)) (as_demo text)
stops_as text (DemoVersion version) is = record { right = (DemoVersion version, is, refl) }
stops_as text (DemoHead place) is = record { right = (DemoHead place, is, refl) }
stops_as text (DemoCut len) is = record { right = (DemoCut len, is, refl) }
stops_as text DemoLong is = record { right = (DemoLong, is, refl) }
stops_as text Memory is = absurd is

-- a demo's fault, or want of memory, as an end of the work
pub read_stops : (text : List ℕ) (fault : DemoFault) (stopped : Stop) → stopped ≡ stop_of_demo fault → (fault ≡ Memory) ⊎ IsFault text fault → Gives (λ demo. demo) (Err stopped) (as_demo text)
read_stops text fault stopped is (inl none) = rw (is, none) (record { right = tt })
read_stops text fault stopped is (inr found) = rw is (stops_as text fault found)
