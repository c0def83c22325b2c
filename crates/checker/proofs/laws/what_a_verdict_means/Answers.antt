use Rattle.checker.proofs.laws.what_a_verdict_means.Goals as goal

pub returns-clause-says : goal.returns-clause-says
returns-clause-says c = λ t w v means. means.says

pub returns-clause-explained : goal.returns-clause-explained
returns-clause-explained c = λ t w v means. means.explained

pub returns-clause-heard : goal.returns-clause-heard
returns-clause-heard c = λ t w v means. means.heard

pub returns-clause-received : goal.returns-clause-received
returns-clause-received c = λ t w v means. means.received

pub returns-clause-whole : goal.returns-clause-whole
returns-clause-whole c = λ t w v means. means.whole

pub returns-clause-acknowledged : goal.returns-clause-acknowledged
returns-clause-acknowledged c = λ t w v means. means.acknowledged

pub returns-clause-carried : goal.returns-clause-carried
returns-clause-carried c = λ t w v means. means.carried

pub returns-clause-windows : goal.returns-clause-windows
returns-clause-windows c = λ t w v means. means.windows

pub returns-clause-states : goal.returns-clause-states
returns-clause-states c = λ t w v means. means.states

pub returns-clause-positions : goal.returns-clause-positions
returns-clause-positions c = λ t w v means. means.positions
