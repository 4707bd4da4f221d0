-- What a link tells whose manager was just started.
use Rattle.std.specs.Prelude.{◌≡◌, ℕ, List, Some}
use Rattle.ix_parse.specs.Faults.{StandsFor}
use Rattle.ix_manager.specs.Images.{IsStartable}
use Rattle.ix_manager.specs.Machine.{start_of}
use Rattle.ix_manager.specs.Runs.{opening_of}
use Rattle.ix_client.specs.Links.{LinkState, Told}

-- it tells its manager, which is of the text's expression and the limit, and was started from this
-- image of the file
pub record TellsStarted (text : List ℕ) (limit : ℕ) (image : List ℕ) (link : LinkState)
    : Type 0 where
  pub told : Told
  pub is : link.told ≡ Some told
  pub stands : StandsFor text told.form
  pub limit_is : told.limit ≡ limit
  pub startable : IsStartable
      (opening_of told.form limit told.machine.history told.machine.renewed
      told.machine.boot) image
  pub machine : told.machine ≡ start_of told.machine.history told.machine.renewed told.machine.boot
