use Rattle.std.proofs.Common.{inl, inr}
use Rattle.rb_script_config.proofs.path.only_path_keys.Goals as goal

-- the keys of the version
pub returns-in-One : goal.returns-in-One
returns-in-One c = elim c.in-One.is [ inl one ↦ rw one c.only.ensures | inr two ↦ rw two c.only.ensures ]

pub returns-in-Three : goal.returns-in-Three
returns-in-Three c = elim c.in-Three.is [ inl three ↦ rw three c.only-in-Three.ensures | inr four ↦ rw four c.only-in-Three.ensures ]
