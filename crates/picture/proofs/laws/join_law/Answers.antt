use Rattle.picture.proofs.JoinLaws.{unchanged, apart, own, whole}
use Rattle.picture.proofs.laws.join_law.Goals as goal

pub returns : goal.returns
returns c = λ gap shapes. record { unchanged = unchanged shapes; apart = apart gap shapes; own = own gap shapes; whole = whole gap shapes }
