use Rattle.x509_c_calls.proofs.PointNames.{full_at, relative_at}
use Rattle.x509_c_calls.proofs.payloads.point.name_places.Goals as goal

pub returns-in-FullName : goal.returns-in-FullName
returns-in-FullName c = λ bytes more stands. full_at _ _ bytes more _ c.in-FullName.is stands

pub returns-in-NameRelativeToCRLIssuer : goal.returns-in-NameRelativeToCRLIssuer
returns-in-NameRelativeToCRLIssuer c = λ bytes more stands. relative_at _ _ bytes more _ c.in-NameRelativeToCRLIssuer.is stands
