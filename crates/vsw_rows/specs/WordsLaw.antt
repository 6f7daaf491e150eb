-- What the key words of a packet tell of its fate.
use Rattle.std.specs.Prelude.{◌≡◌, List}
use Rattle.vsw_base.specs.declared.flow.Crossing.{Crossing}
use Rattle.vsw_port.specs.Cross.{cross_of, made_by}
use Rattle.vsw_port.specs.Fate.{fate_at}
use Rattle.vsw_policy.specs.Layer.{LayerSeen}
use Rattle.vsw_words.specs.Key.{key_words}
use Rattle.vsw_words.specs.Law.{IsId}

-- two packets that a row can't tell apart: their identities have the same key words, and control, moment and sizes are the same
pub record AreAlike (x y : Crossing) : Type 0 where
  pub one : IsId x.id
  pub other : IsId y.id
  pub words : key_words x.id.dir x.id.stack ≡ key_words y.id.dir y.id.stack
  pub control : x.control ≡ y.control
  pub moment : x.moment ≡ y.moment
  pub sizes : x.sizes ≡ y.sizes

-- they have the same fate and make the same changes, whatever the layers
pub record AreTreatedAlike (ls : List LayerSeen) (x y : Crossing) : Type 0 where
  pub fate : fate_at ls x ≡ fate_at ls y
  pub changes : made_by ls x ≡ made_by ls y
  pub crossing : cross_of ls x ≡ cross_of ls y

abbrev pub WordsDecide : Type 0
WordsDecide = (ls : List LayerSeen) (x y : Crossing) → AreAlike x y → AreTreatedAlike ls x y
